-- It is put from the offset on, into the buffer that was lent.
use Rattle.std.proofs.Common.{arith}
use Rattle.moves_text.specs.OutputLines.{event_line}
use Rattle.write_lines.proofs.Sinks.{put_at, same_lent, counted_on}
use Rattle.write_lines.proofs.put_event_line.Goals as goal

pub overflow_sub-result : goal.overflow_sub-result
overflow_sub-result c = counted_on _ _ _ c.put_event_line.ensures.value

pub returns-clause-value : goal.returns-clause-value
returns-clause-value c =
    let a = c.args in
    let put = put_at (event_line a.ordinal a.number a.place a.active) a.at _ _ c.offset_within-from.ensures c.put_event_line.ensures.value (omega (arith, c.offset_within-from.ensures, c.put_event_line.ensures.upper_bound)) in
    let lent = same_lent (event_line a.ordinal a.number a.place a.active) _ _ c.put_event_line.ensures.value in
    (omega (arith, put.0), grind arith)

pub returns-clause-upper_bound : goal.returns-clause-upper_bound
returns-clause-upper_bound c =
    let a = c.args in
    let put = put_at (event_line a.ordinal a.number a.place a.active) a.at _ _ c.offset_within-from.ensures c.put_event_line.ensures.value (omega (arith, c.offset_within-from.ensures, c.put_event_line.ensures.upper_bound)) in
    omega (arith, put.0, c.put_event_line.ensures.upper_bound)
