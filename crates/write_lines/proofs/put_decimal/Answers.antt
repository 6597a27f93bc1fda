-- It is put from the offset on, into the buffer that was lent.
use Rattle.std.proofs.Common.{arith}
use Rattle.moves_text.specs.Decimals.{decimal}
use Rattle.moves_text.proofs.Decimals.{decimal_short}
use Rattle.write_lines.proofs.Sinks.{put_at, same_lent, counted_on}
use Rattle.write_lines.proofs.put_decimal.Goals as goal

pub overflow_sub-result : goal.overflow_sub-result
overflow_sub-result c = counted_on _ _ _ c.put_decimal.ensures

pub returns : goal.returns
returns c =
    let a = c.args in
    let put = put_at (decimal a.n) a.at _ _ c.offset_within-from.ensures c.put_decimal.ensures (omega (arith, c.offset_within-from.ensures, decimal_short 20 a.n (omega arith) (omega arith))) in
    let lent = same_lent (decimal a.n) _ _ c.put_decimal.ensures in
    (omega (arith, put.0), grind arith)
