-- What is said of a text by its reading: nothing of the text, or of its plan, where it was accepted, and of the line that was refused.
use Prim.Native.Nat.{ℕ}
use mathlib.Core.Bool.{false}
use mathlib.Core.List.{List}
use mathlib.Core.Path.{◌≡◌, refl, sym, ap, ◌∙◌}
use Rattle.plan_text.specs.TextQuestions.{shown_in, is_accepted}
use Rattle.plan_text.specs.Reading.{reading}
use Rattle.plan_text.specs.NthLine.{nth_line}
use Rattle.plan_text.specs.declared.Reading.{Reading}
use Rattle.plan_text.specs.declared.TextAnswer.{TextAnswer}
use Rattle.plan_text.specs.declared.TextAnswer.TheVariants.{Accepted, TooLong, BadLine, BadLetter, BadFields, OutOfRange, Repeated, Incomplete}
use Rattle.plan_text.proofs.NthLine.{nth_shown}
use Rattle.told_text.specs.PlanMessage.{message_with, text_message, check_message, plan_message}

other : (a : TextAnswer) → (a ≡ Accepted → ⊥) → is_accepted a ≡ false
other Accepted h = absurd (h refl)
other TooLong h = refl
other BadLine h = refl
other BadLetter h = refl
other BadFields h = refl
other OutOfRange h = refl
other Repeated h = refl
other Incomplete h = refl

module _ (text : List ℕ) (r : Reading) (read : reading text ≡ r) where
  pub plan_said : r.answer ≡ Accepted → check_message r.plan ≡ plan_message text
  unfolding plan_message
  plan_said h = rw (read, h) refl

  shown : nth_line text r.line ≡ shown_in text r
  shown = ap (λ (q : Reading). nth_line text q.line) (sym read) ∙ nth_shown text ∙ ap (shown_in text) read

  module _ (h : r.answer ≡ Accepted → ⊥) where
    pub refusal_said : message_with r.line r.answer (nth_line text r.line) ≡ text_message text
    refusal_said = ap (message_with r.line r.answer) shown ∙ rw (read, other r.answer h) refl

    pub refusal_told : message_with r.line r.answer (nth_line text r.line) ≡ plan_message text
    unfolding plan_message
    refusal_told = refusal_said ∙ rw (read, other r.answer h) refl
