-- The answer to a line, by what its form and its record are answered.
use mathlib.Core.Bool.{Bool, true, false, cond}
use mathlib.Core.List.{List}
use mathlib.Core.Path.{◌≡◌, refl, sym, ap, ◌∙◌}
use Prim.Native.Nat.{ℕ}
use Rattle.std.specs.Prelude.{Option, Some, None, Result, Ok, Err}
use Rattle.plan_text.specs.Lines.{Line, is_skipped}
use Rattle.plan_text.specs.Records.{no_record, record_in}
use Rattle.plan_text.specs.Draft.{Draft}
use Rattle.plan_text.specs.TextQuestions.{is_accepted}
use Rattle.plan_text.specs.ReaderInternals.{unless_refused, form_answer, form_of, record_of, record_answer, line_answer}
use Rattle.plan_text.specs.declared.Record.{Record}
use Rattle.plan_text.specs.declared.TextAnswer.{TextAnswer}
use Rattle.plan_text.proofs.LineForm.{skipped_in}
use Rattle.plan_text.proofs.ReaderSteps.{form_decides, record_decides, none_accepted}

-- an answer as it is handed on
abbrev pub Handed : Result (Unit {0}) TextAnswer → TextAnswer → Type 0
Handed r a = r ≡ unless_refused a (tt {0})

module _ {A : Type 0} (x : A) (b : TextAnswer) where
  abbrev pub told : Result A TextAnswer
  told = unless_refused b x

  pub refusal_told : (a : TextAnswer) → ◌≡◌ {A = Result A TextAnswer} (Err a) told → (a ≡ b) × (is_accepted b ≡ false)
  refusal_told a = step (is_accepted b) refl
    where
      step : (y : Bool) → is_accepted b ≡ y → ◌≡◌ {A = Result A TextAnswer} (Err a) (cond y (Ok x) (Err b)) → (a ≡ b) × (is_accepted b ≡ false)
      step true k e = absurd (cc)
      step false k e = (cc, k)

  pub acceptance_told : (y : A) → ◌≡◌ {A = Result A TextAnswer} (Ok y) told → (y ≡ x) × (is_accepted b ≡ true)
  acceptance_told y = step (is_accepted b) refl
    where
      step : (z : Bool) → is_accepted b ≡ z → ◌≡◌ {A = Result A TextAnswer} (Ok y) (cond z (Ok x) (Err b)) → (y ≡ x) × (is_accepted b ≡ true)
      step true k e = (cc, k)
      step false k e = absurd (cc)

-- the record of a line that has one, and of a skipped line
pub some_record : (bytes : List ℕ) (r : Record) → Some r ≡ record_of bytes → r ≡ record_in bytes
some_record bytes r = step (is_skipped bytes)
  where
    step : (b : Bool) → Some r ≡ cond b None (Some (record_in bytes)) → r ≡ record_in bytes
    step true e = absurd (cc)
    step false e = cc

pub none_record : (bytes : List ℕ) → None ≡ record_of bytes → record_in bytes ≡ no_record
none_record bytes = step (is_skipped bytes) refl
  where
    step : (b : Bool) → is_skipped bytes ≡ b → None ≡ cond b None (Some (record_in bytes)) → record_in bytes ≡ no_record
    step true k e = skipped_in bytes k
    step false k e = absurd (cc)

module _ (d : Draft) (l : Line) where
  pub form_refuses : (a : TextAnswer) → ◌≡◌ {A = Result (Option Record) TextAnswer} (Err a) (form_of d.section l) → Handed (Err a) (line_answer d l)
  form_refuses a e =
      let k = refusal_told (record_of l.bytes) (form_answer d.section l) a e in
      let same = form_decides d l k.1 in
      rw (same, k.1) (ap (λ (x : TextAnswer). Err x) k.0)

  module _ (o : Option Record) (e : ◌≡◌ {A = Result (Option Record) TextAnswer} (Ok o) (form_of d.section l)) where
    pub formed : o ≡ record_of l.bytes
    formed = (acceptance_told (record_of l.bytes) (form_answer d.section l) o e).0

    answered : line_answer d l ≡ record_answer d (record_in l.bytes)
    answered = record_decides d l (acceptance_told (record_of l.bytes) (form_answer d.section l) o e).1

    pub record_handed : (r : Record) → r ≡ record_in l.bytes → (h : Result (Unit {0}) TextAnswer) → Handed h (record_answer d r) → Handed h (line_answer d l)
    record_handed r same h is = is ∙ ap (λ (q : Record). unless_refused (record_answer d q) (tt {0})) same ∙ ap (λ (a : TextAnswer). unless_refused a (tt {0})) (sym answered)

    pub none_handed : record_in l.bytes ≡ no_record → Handed (Ok (tt {0})) (line_answer d l)
    none_handed none = ap (λ (a : TextAnswer). unless_refused a (tt {0})) (sym (answered ∙ ap (record_answer d) none ∙ none_accepted d))
