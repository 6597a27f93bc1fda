-- The form of a line by the first of questions 2 to 4 that it does not meet, and its record where it meets them all.
use Prim.Native.Nat.{ℕ, ◌≤◌}
use native.Mathlib.Omega.{arith}
use mathlib.Core.Bool.{Bool, true, false, cond, ◌&&◌}
use mathlib.Core.List.{List}
use mathlib.Core.Path.{◌≡◌, refl, sym, ◌∙◌}
use lib.Dec.{eqb, leb}
use lib.ListN.{length}
use borrow.Author.Tests.{eq-eqb, ne_eqb, le-leb}
use Rattle.std.specs.Prelude.{Option, Some, None, Result, Ok, Err}
use Rattle.model.specs.Numbers.{each}
use Rattle.model.proofs.Decide.{holds}
use Rattle.plan_text.specs.Lines.{is_plain, is_skipped, columns, fields_in}
use Rattle.plan_text.specs.Records.{layout_of, record_with, record_in}
use Rattle.plan_text.specs.RecordTests.{is_numeral, fields_read}
use Rattle.plan_text.specs.Reading.{follows}
use Rattle.plan_text.specs.ReaderInternals.{fields_given, form_of}
use Rattle.plan_text.specs.declared.Fields.{Fields}
use Rattle.plan_text.specs.declared.Record.{Record}
use Rattle.plan_text.specs.declared.TextAnswer.{TextAnswer}
use Rattle.plan_text.specs.declared.TextAnswer.TheVariants.{BadLine, BadLetter, BadFields}
use Rattle.plan_text.proofs.LineForm.{decides_fielded, count_told, numbers_told, few_fields}
use Rattle.read_form.proofs.Letter.{section_in}

abbrev pub fields_of_line : List ℕ → Fields
fields_of_line bytes = fields_read (fields_in (columns bytes))

module _ (last : ℕ) (bytes : List ℕ) (ended : Bool) where
  abbrev form : Result (Option Record) TextAnswer
  form = form_of last (record { bytes = bytes; ended = ended })

  abbrev fields : List (List ℕ)
  fields = fields_in (columns bytes)

  -- how many fields are due
  abbrev due : ℕ
  due = length (layout_of (section_in bytes))

  few : due ≤ 4
  few = few_fields (section_in bytes)

  -- the count that is read tests question 4
  counted : eqb (fields_of_line bytes).count due ≡ (eqb (length fields) due && each is_numeral fields)
  counted = count_told fields due few

  pub bad_line : (ended && each is_plain bytes) ≡ false → Err BadLine ≡ form
  bad_line h = rw h refl

  module _ (plain : (ended && each is_plain bytes) ≡ true) where
    pub skipped_line : is_skipped bytes ≡ true → Ok None ≡ form
    unfolding record_in
    skipped_line h = rw (plain, h) refl

    module _ (unskipped : is_skipped bytes ≡ false) where
      pub bad_letter : follows last (section_in bytes) ≡ false → Err BadLetter ≡ form
      unfolding record_in
      bad_letter h = rw (plain, unskipped, h) refl

      module _ (letter : follows last (section_in bytes) ≡ true) where
        pub bad_fields : (¬ ((fields_of_line bytes).count ≡ due)) → Err BadFields ≡ form
        unfolding record_in
        bad_fields h = rw (plain, unskipped, letter, sym counted ∙ ne_eqb _ _ h) refl

        -- fields that are not given are not as many as are due
        pub no_fields : (fs : Fields) → Err fs ≡ fields_given (fields_of_line bytes) → Err BadFields ≡ form
        no_fields fs e =
            bad_fields (λ (k : (fields_of_line bytes).count ≡ due).
            let given : leb (fields_of_line bytes).count 4 ≡ true = le-leb _ 4 (omega (arith, few)) in
            let some : fields_given (fields_of_line bytes) ≡ Ok (fields_of_line bytes) = rw given refl in
            cc)

        pub well_formed : (fields_of_line bytes).count ≡ due → Ok (Some (record_with (section_in bytes) (fields_of_line bytes).numbers)) ≡ form
        unfolding record_in
        well_formed h =
            let met = sym counted ∙ eq-eqb _ _ h in
            let fielded = holds (decides_fielded fields due) met in
            let read = numbers_told (section_in bytes) fields (omega (arith, fielded.0, few)) fielded.1 in
            rw (plain, unskipped, letter, met, read) refl

-- the fields that are given are those of the line
pub given_fields : (bytes : List ℕ) (fs : Fields) → Ok fs ≡ fields_given (fields_of_line bytes) → fs ≡ fields_of_line bytes
given_fields bytes fs = step (leb (fields_of_line bytes).count 4)
  where
    step : (b : Bool) → Ok fs ≡ cond b (Ok (fields_of_line bytes)) (Err (fields_of_line bytes)) → fs ≡ fields_of_line bytes
    step true e = cc
    step false e = absurd (cc)
