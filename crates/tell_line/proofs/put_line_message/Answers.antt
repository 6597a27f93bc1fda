-- The message is counted whole, for it is little longer than its text.
use Rattle.std.proofs.Common.{arith, refl, ap}
use Rattle.plan_text.specs.NthLine.{nth_line}
use Rattle.told_text.specs.PlanMessage.{message_with}
use Rattle.write_lines.proofs.Sinks.{new_whole, same_lent}
use Rattle.tell_line.proofs.Shown.{message_fits}
use Rattle.tell_line.proofs.put_line_message.Goals as goal

pub returns : goal.returns
returns c =
    let a = c.args in
    let told = message_with a.line a.answer (nth_line a.text.now a.line) in
    let put = new_whole told _ _ refl c.put_message.ensures (omega (arith, message_fits a.line a.answer a.text.now)) in
    let lent = same_lent _ _ _ c.put_message.ensures in
    (put.0, grind arith)
