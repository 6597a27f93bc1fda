-- The search ends where the line does, and past the end of the text it stays at the offset.
use Rattle.std.proofs.Common.{sym, ◌∙◌}
use Rattle.plan_text.proofs.LineReading.{end_searched}
use Rattle.read_lines.proofs.line_end.Goals as goal

pub returns : goal.returns
returns c = c.find.ensures.first ∙ sym (end_searched c.args.text.now c.args.at)
