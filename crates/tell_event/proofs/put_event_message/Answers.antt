-- A line of words is short, whatever its numbers are.
use Rattle.std.proofs.Common.{arith}
use Rattle.told_text.specs.EventMessage.{event_place}
use Rattle.told_text.proofs.Short.{event_place_short, told_line_short}
use Rattle.tell_event.proofs.put_event_message.Goals as goal

pub returns-clause-upper_bound : goal.returns-clause-upper_bound
returns-clause-upper_bound c =
    let a = c.args in
    told_line_short a.ordinal a.number (event_place a.number a.place a.excess) (omega arith)
    (omega (arith, event_place_short a.number a.place a.excess (omega arith) (omega arith)))
