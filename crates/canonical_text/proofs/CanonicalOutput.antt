-- The laws of the canonical text, gathered: what is written is read back, so an accepted text, which its canonical text never exceeds, comes to a text
-- that comes to itself.
use Prim.Native.Nat.{ℕ, ◌≤◌}
use native.Mathlib.Omega.{arith}
use mathlib.Core.List.{List}
use mathlib.Core.Logic.{◌↔◌, ⊎_elim}
use mathlib.Core.Path.{◌≡◌, refl, sym, ap, ◌∙◌}
use lib.ListN.{length}
use borrow.Author.Tests.{le-leb, lt-leb, eq-eqb, ne_eqb}
use Rattle.model.proofs.Decide.{passes, decided, decides_eq, decides_le}
use Rattle.model.proofs.Soundness.{decides_sound}
use Rattle.plan_text.specs.TextQuestions.{max_text, text_number}
use Rattle.plan_text.specs.Reading.{accepted, reading}
use Rattle.plan_text.specs.declared.Reading.{Reading}
use Rattle.plan_text.proofs.AcceptedText.{accepted_sound}
use Rattle.plan_text.proofs.SamePlan.{accepted_sized}
use Rattle.moves_text.specs.Buffer.{filled, length_filled}
use Rattle.moves_text.proofs.Enough.{plan_line_bounded}
use Rattle.moves_text.proofs.Places.{text_number_small, text_line_small}
use Rattle.canonical_text.specs.CanonicalOutput.{canonical_output}
use Rattle.canonical_text.specs.CanonicalText.{canonical_text}
use Rattle.canonical_text.specs.Writing.{writing, buffer_after}
use Rattle.canonical_text.specs.declared.Writing.{Writing}
use Rattle.canonical_text.specs.Laws.{IsAccepted, canonical_of, CanonicalLaws}
use Rattle.canonical_text.proofs.Order.{records_rise}
use Rattle.canonical_text.proofs.ReadBack.{written_read, same_text_same_plan}
use Rattle.canonical_text.proofs.NotLonger.{accepted_short, never_longer}
use Rattle.canonical_text.proofs.WriteAnswers.{has_room_lem, room_short, all_written, long_refused}

module _ (text : List ℕ) (answered : IsAccepted text) where
  pub canonical_short : length (canonical_of text) ≤ max_text
  canonical_short = omega (arith, never_longer text answered, accepted_short text answered)

  -- so the writer refuses the plan of an accepted text only where the buffer is too short
  pub accepted_written : (buffer : List ℕ) → let p = (reading text).plan in
      ((writing p buffer).length ≡ length_filled (canonical_text p) buffer) × (buffer_after p buffer ≡ filled (canonical_text p) buffer)
  accepted_written buffer =
      let p = (reading text).plan in
      let size = length (canonical_text p) in
      let good = passes (decides_sound p) (accepted_sound text answered) in
      ⊎_elim
      (λ (fits : size ≤ length buffer).
      let w = all_written p buffer good (has_room_lem size (length buffer) fits canonical_short) in
      rw (le-leb size (length buffer) fits) (ap (λ (a : Writing). a.length) (sym w.0), sym w.1))
      (λ (long : ¬ (size ≤ length buffer)).
      let w = long_refused p buffer good (room_short size (length buffer) (omega arith)) in
      rw (lt-leb size (length buffer) (omega arith)) (ap (λ (a : Writing). a.length) (sym w.0), sym w.1))
      (decided (decides_le size (length buffer)))

  canonical_read : reading (canonical_of text) ≡ accepted (reading text).plan
  canonical_read = written_read (reading text).plan (accepted_sound text answered) canonical_short (accepted_sized text answered)

-- what `cellplan` prints is never longer than a text may be
pub printed_fits : (text : List ℕ) → length (canonical_output text) ≤ max_text
unfolding canonical_output
printed_fits text =
    let r = reading text in
    ⊎_elim (λ (z : text_number r.answer ≡ 0). rw (eq-eqb (text_number r.answer) 0 z) (canonical_short text z))
    (λ (ne : ¬ (text_number r.answer ≡ 0)).
    rw (ne_eqb (text_number r.answer) 0 ne)
    (omega (
      arith,
      plan_line_bounded (text_number r.answer) r.line (omega (arith, text_number_small r.answer)) (omega (arith, text_line_small text)),
    )))
    (decided (decides_eq (text_number r.answer) 0))

-- what is printed of an accepted text is its canonical text
printed_accepted : (text : List ℕ) → IsAccepted text → canonical_output text ≡ canonical_of text
unfolding canonical_output
printed_accepted text answered = rw (eq-eqb (text_number (reading text).answer) 0 answered) refl

printed_alike : (text other : List ℕ) → IsAccepted text → IsAccepted other
    → ((reading text).plan ≡ (reading other).plan) ↔ (canonical_output text ≡ canonical_output other)
printed_alike text other answered taken = (
  λ same. printed_accepted text answered ∙ ap canonical_text same ∙ sym (printed_accepted other taken),
  λ alike.
      same_text_same_plan (reading text).plan (reading other).plan (accepted_sound text answered) (accepted_sound other taken)
      (accepted_sized text answered) (accepted_sized other taken) (sym (printed_accepted text answered) ∙ alike ∙ printed_accepted other taken),
)

pub canonical_laws : CanonicalLaws
canonical_laws =
    record {
      rises = records_rise;
      read_back = λ p v short. written_read p v.1 short v.0;
      one_plan = λ p q v w. same_text_same_plan p q v.1 w.1 v.0 w.0;
      unchanged = λ p v short. ap (λ (a : Reading). canonical_text a.plan) (written_read p v.1 short v.0);
      never_longer = never_longer;
      same_plan = canonical_read;
      settled = λ text answered. ap (λ (a : Reading). canonical_text a.plan) (canonical_read text answered);
      alike = printed_alike;
    }
