-- Entries of arrays, by number from 1 as the definitions read them and by position from 0 as the code does; a loop that
-- fills an array from the front; a list that is told by its entries; searches over them.
use Prim.Native.Nat.{ℕ, zero, suc, ◌+◌, ◌-◌, ◌≤◌, ◌<◌}
use native.Mathlib.Omega.{arith}
use mathlib.Core.Bool.{Bool, true, cond}
use mathlib.Core.List.{List, [], ◌∷◌}
use mathlib.Core.Logic.{⊎_elim}
use mathlib.Core.Path.{◌≡◌, refl, sym, ap, subst⁻¹, ◌∙◌}
use lib.Dec.{eqb}
use lib.ListN.{length, set, get_or, length-append, get_or-append, get_or-eq_default}
use lib.Seq.{get_or-set_same, get_or-set_other, get_or_at, ext_get_or}
use borrow.Author.Tests.{ne_eqb, lt-leb}
use Rattle.model.specs.Numbers.{InRange, at, sum_to, lowest, greatest}
use Rattle.model.proofs.Decide.{decided, decides_le, extend}
use Rattle.internals.specs.Internals.{tabulate}

-- entry number i stands at position i - 1, and beyond the last there is 0
module _ (xs : List ℕ) where
  pub at_position : (i : ℕ) → 1 ≤ i → at xs i ≡ get_or xs (i - 1) 0
  at_position zero h = absurd (omega arith)
  at_position (suc i) h = let e : suc i - 1 ≡ i = omega arith in rw e refl

  pub at_beyond : (i : ℕ) → length xs < i → at xs i ≡ 0
  at_beyond zero h = refl
  at_beyond (suc i) h = get_or-eq_default xs 0 (omega arith)

  -- so a number that names an entry above 0 is not 0
  pub at_named : (i : ℕ) → 1 ≤ at xs i → 1 ≤ i
  at_named zero h = h
  at_named (suc i) h = omega arith

  -- a sum does not grow beyond them
  pub sum_beyond : (n m : ℕ) → length xs ≤ n → n ≤ m → sum_to m (at xs) ≡ sum_to n (at xs)
  sum_beyond n zero long more = let e : n ≡ 0 = omega arith in rw e refl
  sum_beyond n (suc m) long more =
      ⊎_elim (λ (h : n ≤ m). omega (arith, sum_beyond n m long h, at_beyond (suc m) (omega arith)))
      (λ (h : ¬ (n ≤ m)). let e : n ≡ suc m = omega arith in rw e refl)
      (decided (decides_le n m))

-- a sum is that of the terms before the last, and the last
pub sum_last : (f : ℕ → ℕ) (n : ℕ) → 1 ≤ n → sum_to n f ≡ sum_to (n - 1) f + f n
sum_last f zero h = absurd (omega arith)
sum_last f (suc n) h = let e : suc n - 1 ≡ n = omega arith in rw e refl

-- what holds of the entries written, and of the next, holds of one more
module _ (P : ℕ → ℕ → Type 0) (xs : List ℕ) (i v : ℕ) where
  pub fill_more : i < length xs → ((k : ℕ) → InRange k i → P k (at xs k)) → P (suc i) v → (k : ℕ) → InRange k (i + 1) → P k (at (set xs i v) k)
  fill_more room h here k range =
      extend (λ k. P k (at (set xs i v) k)) i below (subst⁻¹ (P (suc i)) (get_or-set_same xs i v 0 room) here) k (omega arith)
    where
      below : (k : ℕ) → InRange k i → P k (at (set xs i v) k)
      below zero r = absurd (omega arith)
      below (suc k) r = subst⁻¹ (P (suc k)) (get_or-set_other xs i k v 0 (λ e. omega arith)) (h (suc k) r)

-- an entry behind the one written is as it was
pub set_behind : (xs : List ℕ) (i v k : ℕ) → i + 1 < k → at (set xs i v) k ≡ at xs k
set_behind xs i v zero h = absurd (omega arith)
set_behind xs i v (suc k) h = get_or-set_other xs i k v 0 (λ e. omega arith)

-- the list f 1, .., f n, and each list that has these entries
module _ (f : ℕ → ℕ) where
  pub length_tabulate : (n : ℕ) → length (tabulate n f) ≡ n
  length_tabulate zero = refl
  length_tabulate (suc n) = length-append (tabulate n f) (f (suc n) ∷ []) ∙ omega (arith, length_tabulate n)

  tabulate_there : (n i : ℕ) → i < n → get_or (tabulate n f) i 0 ≡ f (suc i)
  tabulate_there zero i h = absurd (omega arith)
  tabulate_there (suc n) i h =
      ⊎_elim
      (λ (k : suc i ≤ n). get_or-append (tabulate n f) (f (suc n) ∷ []) 0 i (omega (arith, length_tabulate n)) ∙ tabulate_there n i k)
      (λ (k : ¬ (suc i ≤ n)). let e : n ≡ i = omega arith in rw (← e) (get_or_at (tabulate n f) (f (suc n)) [] 0 n (length_tabulate n)))
      (decided (decides_le (suc i) n))

  pub at_tabulate : (n i : ℕ) → InRange i n → at (tabulate n f) i ≡ f i
  at_tabulate n zero h = absurd (omega arith)
  at_tabulate n (suc i) h = tabulate_there n i h.1

  pub tabulated : (n : ℕ) (xs : List ℕ) → length xs ≡ n → ((i : ℕ) → InRange i n → at xs i ≡ f i) → xs ≡ tabulate n f
  tabulated n xs long e =
      ext_get_or 0 xs (tabulate n f) (omega (arith, length_tabulate n))
      (λ i h. e (suc i) (omega arith) ∙ sym (tabulate_there n i (omega arith)))

-- a search over 1 to n that goes by one number after the other, and passes over those that have nothing
module _ {A B : Type 0} (search : ℕ → (ℕ → A) → B) (nothing : A) (first : (f g : ℕ → A) → search 0 f ≡ search 0 g)
    (next : (n : ℕ) (f g : ℕ → A) → search n f ≡ search n g → f (suc n) ≡ g (suc n) → search (suc n) f ≡ search (suc n) g)
    (passes : (n : ℕ) (f : ℕ → A) → f (suc n) ≡ nothing → search (suc n) f ≡ search n f) where
  -- where it asks the same it finds the same
  search_same : (n : ℕ) (f g : ℕ → A) → ((i : ℕ) → InRange i n → f i ≡ g i) → search n f ≡ search n g
  search_same zero f g e = first f g
  search_same (suc n) f g e = next n f g (search_same n f g (λ i h. e i (omega arith))) (e (suc n) (omega arith))

  -- and so over m numbers of which those beyond n have nothing
  search_lanes : (m n : ℕ) (f g : ℕ → A)
      → n ≤ m → ((i : ℕ) → InRange i n → f i ≡ g i) → ((i : ℕ) → n < i → i ≤ m → f i ≡ nothing) → search m f ≡ search n g
  search_lanes zero n f g low same beyond = let e : n ≡ 0 = omega arith in rw e (first f g)
  search_lanes (suc m) n f g low same beyond =
      ⊎_elim
      (λ (l : n ≤ m).
      passes m f (beyond (suc m) (omega arith) (omega arith)) ∙ search_lanes m n f g l same (λ i h k. beyond i h (omega arith)))
      (λ (l : ¬ (n ≤ m)). let e : suc m ≡ n = omega arith in ap (λ k. search k f) e ∙ search_same n f g same)
      (decided (decides_le n m))

-- the search for the lowest passes over a test that passes, and that for the greatest over 0
pub lowest_lanes : (m n : ℕ) (f g : ℕ → Bool)
    → n ≤ m → ((i : ℕ) → InRange i n → f i ≡ g i) → ((i : ℕ) → n < i → i ≤ m → f i ≡ true) → lowest m f ≡ lowest n g
lowest_lanes = search_lanes lowest true (λ f g. refl) (λ n f g e h. rw (e, h) refl) (λ n f h. rw h (keep (lowest n f)))
  where
    keep : (b : ℕ) → cond (eqb b 0) 0 b ≡ b
    keep zero = refl
    keep (suc b) = rw (ne_eqb (suc b) 0 (λ e. omega (arith, e))) refl

pub greatest_lanes : (m n : ℕ) (f g : ℕ → ℕ)
    → n ≤ m → ((i : ℕ) → InRange i n → f i ≡ g i) → ((i : ℕ) → n < i → i ≤ m → f i ≡ 0) → greatest m f ≡ greatest n g
greatest_lanes =
    search_lanes greatest 0 (λ f g. refl) (λ n f g e h. rw (e, h) refl)
    (λ n f h. rw (lt-leb (suc (greatest n f).1) (f (suc n)) (omega (arith, h))) refl)
