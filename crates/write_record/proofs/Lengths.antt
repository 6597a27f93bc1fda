-- The line of a record has at most 46 bytes, for any numbers of 32 bits: a letter, an LF, and four fields of a tab and ten digits. So n lists of
-- records have at most n times the bytes of one.
use Prim.Native.Nat.{ℕ, zero, suc, ◌+◌, ◌*◌, ◌≤◌, ◌<◌}
use native.Mathlib.Numerals.{add-one}
use native.Mathlib.Omega.{arith}
use mathlib.Core.Bool.{Bool, true, false, cond}
use mathlib.Core.List.{List, [], ◌∷◌, ◌++◌, map, append-nil}
use mathlib.Core.Path.{◌≡◌, ap}
use lib.Dec.{eqb}
use lib.ListN.{length, length-append, take}
use Rattle.model.specs.Numbers.{Each, InRange, at}
use Rattle.plan_text.specs.Lines.{line_end, tab}
use Rattle.plan_text.specs.Records.{section_s, section_a, layout_of, numbers_of}
use Rattle.plan_text.specs.Meaning.{B, line}
use Rattle.plan_text.specs.declared.Record.{Record}
use Rattle.moves_text.specs.Decimals.{decimal, line_with}
use Rattle.moves_text.proofs.Decimals.{decimal_short}
use Rattle.canonical_text.specs.CanonicalText.{list_to, valued, entry_records, bound_records, letter_of, record_text, text_of}
use Rattle.canonical_text.specs.WriterInternals.{entry_of}
use Rattle.canonical_text.proofs.Lists.{text_append}

-- a number of 32 bits
abbrev pub Small : ℕ → Type 0
Small n = n < 4294967296

digits_short : (n : ℕ) → Small n → length (decimal n) ≤ 10
digits_short n h = decimal_short 10 n (omega arith) (omega arith)

line_short : (f : List ℕ) (xs : List ℕ) → Each Small xs → length (line_with (f ∷ map decimal xs)) ≤ length f + 1 + 11 * length xs
line_short f [] h = omega (arith, length-append f (line_end ∷ []))
line_short f (x ∷ xs) h =
    omega (arith, length-append f (tab ∷ line_with (decimal x ∷ map decimal xs)), line_short (decimal x) xs h.1, digits_short x h.0)

first_small : (k : ℕ) (xs : List ℕ) → Each Small xs → Each Small (take k xs)
first_small zero xs h = tt
first_small (suc k) [] h = tt
first_small (suc k) (x ∷ xs) h = (h.0, first_small k xs h.1)

first_few : (k : ℕ) (xs : List ℕ) → length (take k xs) ≤ length xs
first_few zero xs = omega arith
first_few (suc k) [] = omega arith
first_few (suc k) (x ∷ xs) = omega (arith, first_few k xs)

pub record_short : (r : Record) → Each Small (numbers_of r) → length (record_text r) ≤ 46
record_short r h =
    let k = length (layout_of r.section) in
    omega (arith, line_short (letter_of r) (take k (numbers_of r)) (first_small k (numbers_of r) h), first_few k (numbers_of r))

-- of a list of one record, and of the record of a value or none
one_short : (r : Record) → Each Small (numbers_of r) → length (text_of (r ∷ [])) ≤ 46
one_short r h = rw append-nil (record_short r h)

pub valued_short : (v : ℕ) (of : ℕ → Record) → Each Small (numbers_of (of v)) → length (text_of (valued v of)) ≤ 46
valued_short v of h = go (eqb v 0)
  where
    go : (b : Bool) → length (text_of (cond b [] (of v ∷ []))) ≤ 46
    go true = omega arith
    go false = one_short (of v) h

-- each of n lists has at most so many bytes
pub lists_short : (most n : ℕ) (f : ℕ → List Record) → ((i : ℕ) → InRange i n → length (text_of (f i)) ≤ most) → length (text_of (list_to n f)) ≤ most * n
lists_short most zero f h = omega arith
lists_short most (suc n) f h =
    let rest = lists_short most n f (λ i w. h i (w.0, omega (arith, w.1))) in
    rw (text_append (list_to n f) (f (suc n)), length-append) (omega (arith, rest, h (suc n) (omega arith, omega arith)))

-- one list more
pub list_more : (few most : ℕ) (f : ℕ → List Record) (i : ℕ) → length (text_of (list_to i f)) ≤ few → length (text_of (f (i + 1))) ≤ most
    → length (text_of (list_to (i + 1) f)) ≤ few + most
list_more few most f i before next =
    let whole : text_of (list_to (i + 1) f) ≡ text_of (list_to i f) ++ text_of (f (i + 1)) = rw add-one (text_append (list_to i f) (f (suc i))) in
    omega (arith, ap length whole, length-append (text_of (list_to i f)) (text_of (f (i + 1))), before, next)

-- the record of an entry, like another, has its numbers and those of the entry
pub entry_small : (like : Record) (i v : ℕ) → Each Small (numbers_of like) → Small i → Small v → Each Small (numbers_of (entry_of like i v))
entry_small like i v h n w = go (eqb like.section section_s) (eqb like.section section_a)
  where
    behind : Record
    behind = line like.section like.first like.second i v

    go : (s a : Bool) → Each Small (numbers_of (cond s behind (cond a behind (line like.section i v 0 0))))
    go true a = (h.0, (h.1.0, (n, (w, tt))))
    go false true = (h.0, (h.1.0, (n, (w, tt))))
    go false false = (n, (w, (omega arith, (omega arith, tt))))

-- the records of a list's entries, and of the bounds
pub entries_short : (of : ℕ → ℕ → Record) (n : ℕ) (xs : List ℕ) → ((i : ℕ) → InRange i n → Each Small (numbers_of (of i (at xs i))))
    → length (text_of (entry_records of n xs)) ≤ 46 * n
entries_short of n xs h = lists_short 46 n (λ i. valued (at xs i) (of i)) (λ i w. valued_short (at xs i) (of i) (h i w))

pub bounds_short : (n : ℕ) (xs : List ℕ) → ((w : ℕ) → InRange w n → Each Small (numbers_of (B w (at xs w)))) → length (text_of (bound_records n xs)) ≤ 46 * n
bounds_short n xs h = lists_short 46 n (λ w. B w (at xs w) ∷ []) (λ w r. one_short (B w (at xs w)) (h w r))
