-- A record's line is read as that record: its parts are the letter and the fields, the letter is that of its section, and the digits of
-- each field say its number.
use Prim.Native.Nat.{ℕ, zero, suc, ◌≤◌, ◌<◌}
use native.Mathlib.Omega.{arith}
use mathlib.Core.Bool.{true, false}
use mathlib.Core.List.{List, [], ◌∷◌, ◌++◌, map, append_assoc}
use mathlib.Core.Logic.{◌≢◌, inl, inr}
use mathlib.Core.Path.{◌≡◌, refl, ◌∙◌}
use lib.ListN.{length, take, drop, length-map}
use lib.Seq.{length-take-le}
use Rattle.model.specs.Numbers.{InRange, entry, Each}
use Rattle.model.proofs.Lists.{append_each, each_map}
use Rattle.plan_text.specs.Lines.{Line, line_end, tab, lines_of, is_skipped, Plain, columns, letter_in, split_by}
use Rattle.plan_text.specs.Records.{letters, sections, section_of, layout_of, Digit, IsNumeral, value_on, record_with, record_in, numbers_of}
use Rattle.plan_text.specs.Meaning.{line}
use Rattle.plan_text.specs.TextQuestions.{records_of, WellFormed, WellFielded}
use Rattle.plan_text.specs.declared.Record.{Record}
use Rattle.plan_text.proofs.Split.{joined_by, split_alone, split_then}
use Rattle.plan_text.proofs.LineForm.{few_fields, record_in_lem}
use Rattle.plan_text.proofs.Sections.{one_of_seven, Blank}
use Rattle.moves_text.specs.Decimals.{decimal, line_with}
use Rattle.moves_text.proofs.Decimals.{decimal_is, decimal_short}
use Rattle.moves_text.proofs.Divided.{lines_then}
use Rattle.canonical_text.specs.CanonicalText.{letter_of, fields_of, text_of}

-- the line without its LF
abbrev pub line_bytes : Record → List ℕ
line_bytes r = joined_by tab (letter_of r ∷ fields_of r)

abbrev pub record_line : Record → Line
record_line r = record { bytes = line_bytes r; ended = true }

pub line_joined : (f : List ℕ) (fs : List (List ℕ)) → line_with (f ∷ fs) ≡ joined_by tab (f ∷ fs) ++ line_end ∷ []
line_joined f [] = refl
line_joined f (g ∷ fs) = rw (line_joined g fs, append_assoc) refl

-- what holds of each byte of the parts, and of what is put between them
each_joined : (P : ℕ → Type 0) (s : ℕ) → P s → (ps : List (List ℕ)) → Each (Each P) ps → Each P (joined_by s ps)
each_joined P s between [] h = tt
each_joined P s between (p ∷ []) h = h.0
each_joined P s between (p ∷ q ∷ ps) h = append_each P p (s ∷ joined_by s (q ∷ ps)) h.0 (between, each_joined P s between (q ∷ ps) h.1)

-- parts without separators, put together, are those parts
joined_split : (s : ℕ) (p : List ℕ) (ps : List (List ℕ)) → Each (Each (λ (c : ℕ). c ≢ s)) (p ∷ ps) → split_by s (joined_by s (p ∷ ps)) ≡ p ∷ ps
joined_split s p [] h = split_alone s p h.0
joined_split s p (q ∷ ps) h = split_then s p (joined_by s (q ∷ ps)) h.0 ∙ rw (joined_split s q ps h.1) refl

-- a record that a line can say: of a section, with zeros where that has no field, and numbers of at most five digits
pub record CanonicalFits (r : Record) : Type 0 where
  pub section : InRange r.section sections
  pub blank : Blank r
  pub short : Each (λ (n : ℕ). n < 100000) (take (length (layout_of r.section)) (numbers_of r))

-- the letter of a section
pub record IsLetter (n : ℕ) : Type 0 where
  pub own : section_of (entry letters n 0 ∷ []) ≡ n
  pub plain : (32 ≤ entry letters n 0) × (entry letters n 0 ≤ 126)
  pub record_line_lem : is_skipped (entry letters n 0 ∷ []) ≡ false

letter_told : (n : ℕ) → InRange n sections → IsLetter n
letter_told =
    one_of_seven IsLetter (record { own = refl; plain = (omega arith, omega arith); record_line_lem = refl })
    (record { own = refl; plain = (omega arith, omega arith); record_line_lem = refl })
    (record { own = refl; plain = (omega arith, omega arith); record_line_lem = refl })
    (record { own = refl; plain = (omega arith, omega arith); record_line_lem = refl })
    (record { own = refl; plain = (omega arith, omega arith); record_line_lem = refl })
    (record { own = refl; plain = (omega arith, omega arith); record_line_lem = refl })
    (record { own = refl; plain = (omega arith, omega arith); record_line_lem = refl })

-- what holds of all digits holds of each field's bytes
digits_each : (P : ℕ → Type 0) → ((b : ℕ) → Digit b → P b) → (xs : List ℕ) → Each (Each P) (map decimal xs)
digits_each P f [] = tt
digits_each P f (x ∷ xs) = (each_map Digit P f (decimal x) (decimal_is x).1, digits_each P f xs)

numbers_each : (xs : List ℕ) → Each (λ (n : ℕ). n < 100000) xs → Each IsNumeral (map decimal xs)
numbers_each [] h = tt
numbers_each (x ∷ xs) h =
    let s = decimal_is x in (((s.0, decimal_short 5 x (omega arith) (omega (arith, h.0))), s.1), numbers_each xs h.1)

numbers_back : (xs : List ℕ) → map (value_on 0) (map decimal xs) ≡ xs
numbers_back [] = refl
numbers_back (x ∷ xs) = rw ((decimal_is x).2, numbers_back xs) refl

-- the first numbers of a record are enough where the others are 0
numbers_enough : (m section a b c d : ℕ) → m ≤ 4 → Each (λ (x : ℕ). x ≡ 0) (drop m (a ∷ b ∷ c ∷ d ∷ []))
    → record_with section (take m (a ∷ b ∷ c ∷ d ∷ [])) ≡ line section a b c d
numbers_enough zero section a b c d few z = cc
numbers_enough (suc zero) section a b c d few z = cc
numbers_enough (suc (suc zero)) section a b c d few z = cc
numbers_enough (suc (suc (suc zero))) section a b c d few z = cc
numbers_enough (suc (suc (suc (suc zero)))) section a b c d few z = refl
numbers_enough (suc (suc (suc (suc (suc m))))) section a b c d few z = absurd (omega arith)

module _ (r : Record) (s : CanonicalFits r) where
  abbrev letter : IsLetter r.section
  letter = letter_told r.section s.section

  abbrev count : ℕ
  count = length (layout_of r.section)

  fields_counted : length (fields_of r) ≡ count
  fields_counted = length-map (take count (numbers_of r)) decimal ∙ length-take-le count (numbers_of r) (few_fields r.section)

  part_each : (P : ℕ → Type 0) → P (entry letters r.section 0) → ((b : ℕ) → Digit b → P b) → Each (Each P) (letter_of r ∷ fields_of r)
  part_each P first f = ((first, tt), digits_each P f (take count (numbers_of r)))

  bytes_plain : Each Plain (line_bytes r)
  bytes_plain = each_joined Plain tab (inl refl) (letter_of r ∷ fields_of r) (part_each Plain (inr letter.plain) (λ b h. inr (omega (arith, h.0), omega (arith, h.1))))

  pub bytes_clean : Each (λ (c : ℕ). c ≢ line_end) (line_bytes r)
  bytes_clean =
      each_joined (λ c. c ≢ line_end) tab (λ e. omega arith) (letter_of r ∷ fields_of r)
      (part_each (λ c. c ≢ line_end) (λ e. omega (arith, letter.plain)) (λ b h e. omega (arith, h)))

  line_parts : columns (line_bytes r) ≡ letter_of r ∷ fields_of r
  line_parts =
      joined_split tab (letter_of r) (fields_of r)
      (part_each (λ c. c ≢ tab) (λ e. omega (arith, letter.plain)) (λ b h e. omega (arith, h)))

  -- it is a record's line
  not_skipped : (b : ℕ) (fs : List (List ℕ)) → is_skipped (b ∷ []) ≡ false → is_skipped (joined_by tab ((b ∷ []) ∷ fs)) ≡ false
  not_skipped b [] h = h
  not_skipped b (f ∷ fs) h = h

  pub is_record : is_skipped (line_bytes r) ≡ false
  is_record = not_skipped (entry letters r.section 0) (fields_of r) letter.record_line_lem

  fields_numbers : Each IsNumeral (fields_of r)
  fields_numbers = numbers_each (take count (numbers_of r)) s.short

  pub section_told : section_of (letter_in (columns (line_bytes r))) ≡ r.section
  section_told = rw line_parts letter.own

  pub line_formed : WellFormed (record_line r)
  line_formed = (refl, bytes_plain)

  pub line_fielded : WellFielded (record_line r)
  line_fielded = rw (section_told, line_parts) (fields_counted, fields_numbers)

  pub record_back : record_in (line_bytes r) ≡ r
  record_back =
      record_in_lem (line_bytes r) is_record
      ∙ rw (section_told, line_parts, numbers_back (take count (numbers_of r)))
      (numbers_enough count r.section r.first r.second r.third r.fourth (few_fields r.section) s.blank)

-- the lines and the records of what was written
pub lines_back : (rs : List Record) → Each CanonicalFits rs → lines_of (text_of rs) ≡ map record_line rs
lines_back [] h = refl
lines_back (r ∷ rs) h =
    let line : text_of (r ∷ rs) ≡ line_bytes r ++ line_end ∷ text_of rs = rw (line_joined (letter_of r) (fields_of r), append_assoc) refl in
    rw line (lines_then (line_bytes r) (text_of rs) (bytes_clean r h.0) ∙ rw (lines_back rs h.1) refl)

pub records_back : (rs : List Record) → Each CanonicalFits rs → records_of (map record_line rs) ≡ rs
records_back [] h = refl
records_back (r ∷ rs) h = rw (is_record r h.0, record_back r h.0, records_back rs h.1) refl
