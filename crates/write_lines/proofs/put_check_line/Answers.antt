-- It is put from the offset on, into the buffer that was lent.
use Rattle.std.proofs.Common.{arith}
use Rattle.moves_text.specs.OutputLines.{check_line}
use Rattle.write_lines.proofs.Lengths.{check_line_bounded}
use Rattle.write_lines.proofs.Sinks.{put_at, same_lent, counted_on}
use Rattle.write_lines.proofs.put_check_line.Goals as goal

pub overflow_sub-result : goal.overflow_sub-result
overflow_sub-result c = counted_on _ _ _ c.put_check_line.ensures

pub returns : goal.returns
returns c =
    let a = c.args in
    let put = put_at (check_line a.number a.first a.second) a.at _ _ c.offset_within-from.ensures c.put_check_line.ensures (omega (arith, c.offset_within-from.ensures, check_line_bounded a.number a.first a.second (omega arith) (omega arith) (omega arith))) in
    let lent = same_lent (check_line a.number a.first a.second) _ _ c.put_check_line.ensures in
    (omega (arith, put.0), grind arith)
