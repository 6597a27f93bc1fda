-- What `cellplan` prints: the canonical text of the text's plan; of a refused text `P`, its number and its line, as `cellmoves` prints them.
use Rattle.std.specs.Prelude.{ℕ, cond, List}
use Rattle.plan_text.specs.TextQuestions.{text_number, is_accepted}
use Rattle.plan_text.specs.Reading.{reading}
use Rattle.plan_text.specs.declared.Reading.{Reading}
use Rattle.moves_text.specs.OutputLines.{plan_line}
use Rattle.canonical_text.specs.CanonicalText.{canonical_text}

abbrev pub printed_of : Reading → List ℕ
printed_of r = cond (is_accepted r.answer) (canonical_text r.plan) (plan_line (text_number r.answer) r.line)

unfoldable pub canonical_output : List ℕ → List ℕ
canonical_output text = printed_of (reading text)
