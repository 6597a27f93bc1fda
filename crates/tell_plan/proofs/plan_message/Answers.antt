-- The reading of the text says what is told: of its plan where it was accepted, and of its line where it was refused.
use Rattle.std.proofs.Common.{sym}
use Rattle.plan_text.specs.Framed.{reading_from}
use Rattle.moves_text.proofs.Overlays.{put_as}
use Rattle.tell_plan.proofs.Said.{plan_said, refusal_told}
use Rattle.tell_plan.proofs.plan_message.Goals as goal

pub returns-in-Accepted : goal.returns-in-Accepted
returns-in-Accepted c =
    let a = c.args in
    let r = c.read-reading in
    put_as 0 a.buffer.now (plan_said a.text.now (reading_from r.result) (sym r.ensures) c.in-Accepted.is) c.check_message.ensures

pub returns-in_default : goal.returns-in_default
returns-in_default c =
    let a = c.args in
    let r = c.read-reading in
    put_as 0 a.buffer.now (refusal_told a.text.now (reading_from r.result) (sym r.ensures) c.in_default.not-Accepted) c.put_line_message.ensures
