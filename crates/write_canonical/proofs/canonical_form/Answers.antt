-- An accepted text's plan is written where it fits; of a refused one the line is put.
use Rattle.std.proofs.Common.{ℕ, List, ◌≡◌, refl, sym, ap, ◌∙◌}
use borrow.Author.Tests.{eq-eqb, ne_eqb}
use Rattle.plan_text.specs.TextQuestions.{text_number}
use Rattle.plan_text.specs.Reading.{reading}
use Rattle.plan_text.specs.declared.Reading.{Reading}
use Rattle.moves_text.specs.OutputLines.{plan_line}
use Rattle.moves_text.specs.Buffer.{filled, length_filled}
use Rattle.canonical_text.specs.CanonicalText.{canonical_text}
use Rattle.canonical_text.specs.Writing.{writing, buffer_after}
use Rattle.canonical_text.specs.CanonicalOutput.{canonical_output}
use Rattle.canonical_text.specs.declared.Writing.{Writing}
use Rattle.canonical_text.proofs.CanonicalOutput.{accepted_written}
use Rattle.write_canonical.proofs.canonical_form.Goals as goal

-- what is printed, by the text's answer
module _ (text : List ℕ) where
  printed : text_number (reading text).answer ≡ 0 → canonical_text (reading text).plan ≡ canonical_output text
  unfolding canonical_output
  printed e = rw (eq-eqb (text_number (reading text).answer) 0 e) refl

  told : (¬ (text_number (reading text).answer ≡ 0)) → plan_line (text_number (reading text).answer) (reading text).line ≡ canonical_output text
  unfolding canonical_output
  told ne = rw (ne_eqb (text_number (reading text).answer) 0 ne) refl

pub returns-then-number-eq0 : goal.returns-then-number-eq0
returns-then-number-eq0 c =
    let text = c.args.text.now in
    let buffer = c.args.buffer.now in
    let number = c.text_number-number.ensures ∙ ap (λ (r : Reading). text_number r.answer) c.read-reading.ensures in
    let zero = sym number ∙ c.if-number-eq0.true in
    let plan = ap (λ (r : Reading). r.plan) c.read-reading.ensures in
    let w = accepted_written text zero buffer in
    let put = c.write_plan-written.ensures in (
      ap (λ (x : Writing). x.length) (put.0 ∙ ap (λ p. writing p buffer) plan) ∙ w.0 ∙ ap (λ bs. length_filled bs buffer) (printed text zero),
      put.1 ∙ ap (λ p. buffer_after p buffer) plan ∙ w.1 ∙ ap (λ bs. filled bs buffer) (printed text zero),
    )

pub returns : goal.returns
returns c =
    let text = c.args.text.now in
    let buffer = c.args.buffer.now in
    let number = c.text_number-number.ensures ∙ ap (λ (r : Reading). text_number r.answer) c.read-reading.ensures in
    let line = ap (λ (r : Reading). r.line) c.read-reading.ensures in
    let said = (λ i. plan_line (number i) (line i)) ∙ told text (λ e. c.if-number-eq0.false (number ∙ e)) in
    (c.put_refusal.ensures.0 ∙ ap (λ bs. length_filled bs buffer) said, c.put_refusal.ensures.1 ∙ ap (λ bs. filled bs buffer) said)
