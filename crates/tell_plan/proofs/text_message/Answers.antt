-- The reading of the text says what the message says.
use Rattle.std.proofs.Common.{sym}
use Rattle.plan_text.specs.Framed.{reading_from}
use Rattle.moves_text.proofs.Overlays.{put_as}
use Rattle.tell_plan.proofs.Said.{refusal_said}
use Rattle.tell_plan.proofs.text_message.Goals as goal

pub returns-in_default : goal.returns-in_default
returns-in_default c =
    let a = c.args in
    let r = c.read-reading in
    put_as 0 a.buffer.now (refusal_said a.text.now (reading_from r.result) (sym r.ensures) c.in_default.not-Accepted) c.put_line_message.ensures
