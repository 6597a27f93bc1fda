-- The fields of a line from one tab to the next: what is left to read from a tab on, after the numbers at hand.
use Prim.Native.Nat.{ℕ, ◌+◌, ◌-◌, ◌<◌}
use mathlib.Core.Bool.{and-false}
use mathlib.Core.List.{List, ◌∷◌}
use mathlib.Core.Path.{◌≡◌, refl, sym, ap, ◌∙◌}
use lib.ListN.{length, take, drop, set}
use borrow.Author.Tests.{lt-ltb}
use Rattle.byte_slices.specs.Bytes.{slice, index_of}
use Rattle.plan_text.specs.Lines.{tab, columns, fields_in}
use Rattle.plan_text.specs.RecordTests.{is_numeral, fields_on}
use Rattle.plan_text.specs.ReaderInternals.{value_read, fields_given}
use Rattle.std.specs.Prelude.{Option, Some, None, Result, Err}
use Rattle.std.specs.Option.{ok_or}
use Rattle.plan_text.specs.declared.Fields.{Fields}
use Rattle.plan_text.proofs.Split.{parts_after, after_separator, split_from}
use Rattle.read_fields.proofs.Digits.{read_none, read_some}

-- the fields after the tab at an offset of the line; none at its end
abbrev pub fields_after : List ℕ → ℕ → List (List ℕ)
fields_after line at = parts_after tab (drop at line)

-- an offset of the line at which a search that starts at another ends
abbrev pub TabFound : List ℕ → ℕ → ℕ → Type 0
TabFound line from end = end ≡ from + index_of tab (slice from (length line) line)

module _ (line : List ℕ) where
  pub first_tab : (at : ℕ) → TabFound line 0 at → fields_in (columns line) ≡ fields_after line at
  first_tab at e = ap fields_in (split_from tab line 0 at e)

  pub next_tab : (at end : ℕ) → at < length line → TabFound line (at + 1) end
      → fields_after line at ≡ take (end - (at + 1)) (drop (at + 1) line) ∷ fields_after line end
  next_tab at end h e = after_separator tab line at h ∙ split_from tab line (at + 1) end e

-- a field f, read behind n others
module _ (n : ℕ) (xs f : List ℕ) (fs : List (List ℕ)) where
  -- the numbers before it, with the count that says that they are not all
  abbrev too_many : Fields
  too_many = record { count = 5; numbers = xs }

  pub field_bad : value_read f ≡ None → fields_given (fields_on n xs (f ∷ fs)) ≡ Err too_many
  field_bad e = rw (read_none f e) refl

  pub field_refused : (o : Option ℕ) → o ≡ value_read f → (e : Fields) → ◌≡◌ {A = Result ℕ Fields} (Err e) (ok_or o too_many)
      → Err e ≡ fields_given (fields_on n xs (f ∷ fs))
  field_refused None h e k = let same : e ≡ too_many = cc in ap (λ (x : Fields). Err x) same ∙ sym (field_bad (sym h))
  field_refused (Some x) h e k = absurd (cc)

  pub field_fifth : n ≡ 4 → fields_given (fields_on n xs (f ∷ fs)) ≡ Err too_many
  field_fifth k = rw (k, and-false (is_numeral f)) refl

  pub field_next : (x : ℕ) → value_read f ≡ Some x → n < 4 → fields_on n xs (f ∷ fs) ≡ fields_on (n + 1) (set xs n x) fs
  field_next x e h = let r = read_some f x e in rw (r.1, r.0, lt-ltb n 4 h) refl
