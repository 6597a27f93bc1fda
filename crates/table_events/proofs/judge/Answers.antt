-- What the event's own function promises is said of that event.
use Rattle.std.proofs.Common.{rules}
use Rattle.table_events.proofs.judge.Goals as goal

pub returns-in-Load : goal.returns-in-Load
returns-in-Load c = rw c.in-Load.is (search rules)

pub returns-in-Advance : goal.returns-in-Advance
returns-in-Advance c = rw c.in-Advance.is (search rules)

pub returns-in-Unload : goal.returns-in-Unload
returns-in-Unload c = rw c.in-Unload.is (search rules)

pub returns-in-Pull : goal.returns-in-Pull
returns-in-Pull c = rw c.in-Pull.is (search rules)
