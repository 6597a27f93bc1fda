-- Questions 2 to 4 of a line: the tests decide what is asked. A program counts the fields as it reads them, and its count and numbers
-- are theirs exactly where each is a numeral.
use Prim.Native.Nat.{ℕ, zero, suc, ◌+◌, ◌-◌, ◌*◌, ◌^◌, ◌≤◌, ◌<◌}
use native.Mathlib.Nat.{add-zero, zero-add, pow-succ'}
use native.Mathlib.Numerals.{add-one}
use native.Mathlib.Omega.{arith}
use mathlib.Core.Bool.{Bool, true, false, cond, ◌&&◌, ◌||◌, false≢true}
use mathlib.Core.List.{List, [], ◌∷◌, map}
use mathlib.Core.Path.{◌≡◌, refl, sym, subst, ◌∙◌}
use lib.Dec.{eqb}
use lib.ListN.{length, take, drop, set, length-map}
use borrow.Author.Tests.{ne_eqb, lt-ltb}
use Rattle.model.specs.Numbers.{Each, each}
use Rattle.model.proofs.Decide.{Decides, holding, failing, passes, same_test, decides_iff, decides_eq, decides_le, decides_lt, decides_range}
use Rattle.model.proofs.Decide.{decides_or, decides_each, ◌and◌}
use Rattle.plan_text.specs.Lines.{Line, tab, is_skipped, is_plain, columns, letter_in, fields_in}
use Rattle.plan_text.specs.Records.{sections, section_of, layout_of, Digit, IsNumeral, value_on, record_with, no_record, record_in, numbers_of}
use Rattle.plan_text.specs.RecordTests.{is_numeral, fields_on, fields_read, no_numbers}
use Rattle.plan_text.specs.TextQuestions.{WellFormed, Follows}
use Rattle.plan_text.specs.Reading.{follows}
use Rattle.plan_text.proofs.Sections.{Blank}

decides_true : (b : Bool) → Decides (b ≡ true) b
decides_true true = holding refl
decides_true false = failing false≢true

-- what is asked of a record's line alone is met by a skipped one
pub decides_record : (skipped : Bool) {P : Type 0} {b : Bool} → (skipped ≡ false → Decides P b) → Decides (skipped ≡ false → P) (skipped || b)
decides_record true d = holding (λ e. absurd (false≢true (sym e)))
decides_record false d = decides_iff (λ h e. h) (λ h. h refl) (d refl)

-- 2
pub decides_well_formed : (l : Line) → Decides (WellFormed l) (l.ended && each is_plain l.bytes)
decides_well_formed l =
    decides_true l.ended and decides_each (λ b. decides_or (decides_eq b tab) (decides_le 32 b and decides_le b 126)) l.bytes

-- 3
pub decides_follows : (last section : ℕ) → Decides (Follows last section) (follows last section)
decides_follows last section =
    decides_iff (λ h. (h.0.0, h.0.1, h.1)) (λ h. ((h.0, h.1), h.2))
    (decides_range section sections and decides_le last section and decides_or (decides_lt 0 last) (decides_eq section 1))

-- 4
pub decides_numeral : (bs : List ℕ) → Decides (IsNumeral bs) (is_numeral bs)
decides_numeral bs = decides_range (length bs) 5 and decides_each (λ b. decides_le 48 b and decides_le b 57) bs

-- a number of i digits is below 10 ^ i
pub digit_below : (i x d : ℕ) → x < 10 ^ i → d ≤ 9 → 10 * x + d < 10 ^ (i + 1)
digit_below i x d h k = let e : 10 ^ (i + 1) ≡ 10 * 10 ^ i = rw add-one (pow-succ' 10 i) in omega arith

pub number_below : (bs : List ℕ) (i x : ℕ) → Each Digit bs → x < 10 ^ i → value_on x bs < 10 ^ (i + length bs)
number_below [] i x h k = let e : i + 0 ≡ i = omega arith in rw e k
number_below (b ∷ bs) i x h k =
    let e : i + suc (length bs) ≡ i + 1 + length bs = omega arith in
    rw e (number_below bs (i + 1) (10 * x + (b - 48)) h.1 (digit_below i x (b - 48) k (omega (arith, h.0))))

-- fields that are read behind n others
fields_counted : (n : ℕ) (xs : List ℕ) (fs : List (List ℕ)) → Each IsNumeral fs → n + length fs ≤ 4 → (fields_on n xs fs).count ≡ n + length fs
fields_counted n xs [] h few = sym (add-zero n)
fields_counted n xs (f ∷ fs) h few =
    rw (passes (decides_numeral f) h.0, lt-ltb n 4 (omega arith)) (fields_counted (n + 1) _ fs h.1 (omega arith) ∙ omega arith)

fields_refused : (n : ℕ) (xs : List ℕ) (fs : List (List ℕ)) → n ≤ 4 → (¬ (Each IsNumeral fs × (n + length fs ≤ 4))) → (fields_on n xs fs).count ≡ 5
fields_refused n xs [] low h = absurd (h (tt, omega arith))
fields_refused n xs (f ∷ fs) low h = go (λ low few. fields_refused (n + 1) _ fs low few) (decides_numeral f) (decides_lt n 4)
  where
    go : (n + 1 ≤ 4 → (¬ (Each IsNumeral fs × (n + 1 + length fs ≤ 4))) → (fields_on (n + 1) (set xs n (value_on 0 f)) fs).count ≡ 5)
        → {a b : Bool} → Decides (IsNumeral f) a → Decides (n < 4) b
        → (cond (a && b) (fields_on (n + 1) (set xs n (value_on 0 f)) fs) (record { count = 5; numbers = xs })).count ≡ 5
    go rest (failing bad) d = refl
    go rest (holding good) (failing full) = refl
    go rest (holding good) (holding room) = rest (omega arith) (λ k. h ((good, k.0), omega (arith, k.1)))

-- so many fields and no others, each a numeral
module _ (fs : List (List ℕ)) (m : ℕ) where
  abbrev Fielded : Type 0
  Fielded = (length fs ≡ m) × Each IsNumeral fs

  pub decides_fielded : Decides Fielded (eqb (length fs) m && each is_numeral fs)
  decides_fielded = decides_eq (length fs) m and decides_each decides_numeral fs

  module _ (few : m ≤ 4) where
    pub decides_numbers : Decides Fielded (eqb (fields_read fs).count m)
    decides_numbers = go (decides_each decides_numeral fs and decides_le (length fs) 4)
      where
        go : {b : Bool} → Decides (Each IsNumeral fs × (length fs ≤ 4)) b → Decides Fielded (eqb (fields_read fs).count m)
        go (holding h) =
            let counted = fields_counted 0 no_numbers fs h.0 (omega (arith, h.1)) ∙ zero-add (length fs) in
            rw counted (decides_iff (λ e. (e, h.0)) (λ k. k.0) (decides_eq (length fs) m))
        go (failing h) =
            let counted = fields_refused 0 no_numbers fs (omega arith) (λ k. h (k.0, omega (arith, k.1))) in
            rw (counted, ne_eqb 5 m (λ e. omega (arith, e))) (failing (λ k. h (k.1, omega (arith, k.0))))

    -- the count that is read tests the same
    pub count_told : eqb (fields_read fs).count m ≡ (eqb (length fs) m && each is_numeral fs)
    count_told = same_test decides_numbers decides_fielded

-- and the numbers are the values of the fields
pub numbers_told : (section : ℕ) (fs : List (List ℕ)) → length fs ≤ 4 → Each IsNumeral fs
    → record_with section (fields_read fs).numbers ≡ record_with section (map (value_on 0) fs)
numbers_told section [] few h = refl
numbers_told section (f ∷ []) few h = rw (passes (decides_numeral f) h.0) refl
numbers_told section (f ∷ g ∷ []) few h = rw (passes (decides_numeral f) h.0, passes (decides_numeral g) h.1.0) refl
numbers_told section (f ∷ g ∷ k ∷ []) few h =
    rw (passes (decides_numeral f) h.0, passes (decides_numeral g) h.1.0, passes (decides_numeral k) h.1.1.0) refl
numbers_told section (f ∷ g ∷ k ∷ l ∷ []) few h =
    rw (
      passes (decides_numeral f) h.0,
      passes (decides_numeral g) h.1.0,
      passes (decides_numeral k) h.1.1.0,
      passes (decides_numeral l) h.1.1.1.0,
    ) refl
numbers_told section (f ∷ g ∷ k ∷ l ∷ m ∷ fs) few h = absurd (omega arith)

-- the numbers of a record with at most four are these, and zeros behind them
numbers_with : (section : ℕ) (xs : List ℕ) → length xs ≤ 4
    → (take (length xs) (numbers_of (record_with section xs)) ≡ xs)
    × Each (λ (x : ℕ). x ≡ 0) (drop (length xs) (numbers_of (record_with section xs)))
numbers_with section [] few = (refl, (refl, (refl, (refl, (refl, tt)))))
numbers_with section (a ∷ []) few = (refl, (refl, (refl, (refl, tt))))
numbers_with section (a ∷ b ∷ []) few = (refl, (refl, (refl, tt)))
numbers_with section (a ∷ b ∷ c ∷ []) few = (refl, (refl, tt))
numbers_with section (a ∷ b ∷ c ∷ d ∷ []) few = (refl, tt)
numbers_with section (a ∷ b ∷ c ∷ d ∷ e ∷ xs) few = absurd (omega arith)

-- no section has more than four
pub few_fields : (section : ℕ) → length (layout_of section) ≤ 4
few_fields zero = omega arith
few_fields (suc zero) = omega arith
few_fields (suc (suc zero)) = omega arith
few_fields (suc (suc (suc zero))) = omega arith
few_fields (suc (suc (suc (suc zero)))) = omega arith
few_fields (suc (suc (suc (suc (suc zero))))) = omega arith
few_fields (suc (suc (suc (suc (suc (suc zero)))))) = omega arith
few_fields (suc (suc (suc (suc (suc (suc (suc zero))))))) = omega arith
few_fields (suc (suc (suc (suc (suc (suc (suc (suc n)))))))) = omega arith

-- so the numbers of a line's record are the values of its fields, and zeros behind them
module _ (fs : List (List ℕ)) (section : ℕ) (h : Fielded fs (length (layout_of section))) where
  abbrev values : List ℕ
  values = map (value_on 0) fs

  size : length values ≡ length (layout_of section)
  size = length-map fs (value_on 0) ∙ h.0

  few : length values ≤ 4
  few = omega (arith, size, few_fields section)

  pub fielded_numbers : take (length (layout_of section)) (numbers_of (record_with section values)) ≡ values
  fielded_numbers = subst (λ n. take n (numbers_of (record_with section values)) ≡ values) size (numbers_with section values few).0

  pub fielded_blank : Blank (record_with section values)
  fielded_blank = subst (λ n. Each (λ (x : ℕ). x ≡ 0) (drop n (numbers_of (record_with section values)))) size (numbers_with section values few).1

-- the record of a line that is one, and of a skipped line
module _ (bytes : List ℕ) where
  pub record_in_lem : is_skipped bytes ≡ false → record_in bytes ≡ record_with (section_of (letter_in (columns bytes))) (map (value_on 0) (fields_in (columns bytes)))
  unfolding record_in
  record_in_lem e = rw e refl

  pub skipped_in : is_skipped bytes ≡ true → record_in bytes ≡ no_record
  unfolding record_in
  skipped_in e = rw e refl
