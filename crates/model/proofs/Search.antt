-- For loops over 1 to n, or over the entries of a list, that return at the first one that decides: `..-more` keeps the
-- invariant over those passed, and `..-fails`, `..-holds` and `..-at` give the result at the one where the loop returns.
-- `each_flag` is for loops that keep a flag to their end instead, and `greatest_more` for those that keep the greatest.
use Prim.Native.Nat.{ℕ, zero, suc, ◌+◌, ◌≤◌, ◌<◌}
use native.Mathlib.Numerals.{add-one}
use native.Mathlib.Omega.{arith}
use mathlib.Core.Bool.{Bool, true, false, ◌&&◌, and-true, and-false, and_assoc, or-true}
use mathlib.Core.List.{List}
use mathlib.Core.Logic.{◌⊎◌, inl, inr, ⊎_elim}
use mathlib.Core.Path.{◌≡◌, refl, sym, ◌∙◌}
use lib.Dec.{leb}
use lib.ListN.{length, drop, get_or, drop_of_length-le}
use lib.Seq.{drop-cons}
use borrow.Author.Tests.{le-leb, lt-leb, ne_eqb}
use Rattle.model.specs.Numbers.{at, all_to, some_to, lowest, greatest, each}
use Rattle.model.proofs.Decide.{decides_le, decided}

module _ (f : ℕ → Bool) where
  -- either the number is passed already, or it is the last
  last_or_before : (P : ℕ → Type 0) (n i : ℕ) → i < suc n → (i < n → P n) → (i ≡ n → P n) → P n
  last_or_before P n i h before last =
      ⊎_elim (λ (l : suc i ≤ n). before l) (λ (l : ¬ (suc i ≤ n)). last (omega arith)) (decided (decides_le (suc i) n))

  pub all_more : (i : ℕ) → all_to i f ≡ true → f (suc i) ≡ true → all_to (i + 1) f ≡ true
  all_more i h k = rw (add-one, h, k)

  pub all_fails : (n i : ℕ) → i < n → f (suc i) ≡ false → all_to n f ≡ false
  all_fails zero i h k = absurd (omega arith)
  all_fails (suc n) i h k =
      last_or_before (λ m. all_to (suc m) f ≡ false) n i h (λ l. rw (all_fails n i l k) refl)
      (λ e. rw (← e, k) (and-false (all_to i f)))

  pub some_more : (i : ℕ) → some_to i f ≡ false → f (suc i) ≡ false → some_to (i + 1) f ≡ false
  some_more i h k = rw (add-one, h, k)

  pub some_holds : (n i : ℕ) → i < n → f (suc i) ≡ true → some_to n f ≡ true
  some_holds zero i h k = absurd (omega arith)
  some_holds (suc n) i h k =
      last_or_before (λ m. some_to (suc m) f ≡ true) n i h (λ l. rw (some_holds n i l k) refl)
      (λ e. rw (← e, k) (or-true (some_to i f)))

  -- the lowest at which the test fails
  pub lowest_more : (i : ℕ) → lowest i f ≡ 0 → f (suc i) ≡ true → lowest (i + 1) f ≡ 0
  lowest_more i h k = rw (add-one, h, k)

  pub lowest_at : (n i : ℕ) → i < n → lowest i f ≡ 0 → f (suc i) ≡ false → lowest n f ≡ i + 1
  lowest_at zero i h none k = absurd (omega arith)
  lowest_at (suc n) i h none k =
      last_or_before (λ m. lowest (suc m) f ≡ i + 1) n i h (λ l. passed (lowest_at n i l none k)) (λ e. rw (← e, none, k, add-one) refl)
    where
      passed : lowest n f ≡ i + 1 → lowest (suc n) f ≡ i + 1
      passed e = rw (ne_eqb (lowest n f) 0 (λ z. omega (arith, e))) e

-- a search for the greatest goes to the end: by one of two branches the next number is taken for the one found, or is not
module _ (f : ℕ → ℕ) (i : ℕ) {found : ℕ × ℕ} (so_far : greatest i f ≡ found) {P Q : Type 0} {number value : ℕ} where
  pub greatest_more : (P → (found.1 < f (suc i)) × (number ≡ i + 1) × (value ≡ f (suc i)))
      → (Q → (f (suc i) ≤ found.1) × (number ≡ found.0) × (value ≡ found.1))
      → P ⊎ Q → greatest (i + 1) f ≡ (number, value)
  greatest_more takes keeps (inl h) =
      let t = takes h in
      rw (t.1, t.2, add-one, so_far, le-leb (suc found.1) (f (suc i)) t.0) refl
  greatest_more takes keeps (inr h) =
      let k = keeps h in
      rw (add-one, so_far, lt-leb (suc found.1) (f (suc i)) (omega (arith, k.0)), k.1, k.2) refl

-- what the entries from i on say
module _ {A : Type 0} (f : A → Bool) (xs : List A) where
  pub each_here : (i : ℕ) (d : A) → i < length xs → each f (drop i xs) ≡ (f (get_or xs i d) && each f (drop (i + 1) xs))
  each_here i d h = rw (add-one, drop-cons xs i d) refl

  pub each_end : (i : ℕ) → length xs ≤ i → each f (drop i xs) ≡ true
  each_end i h = rw (drop_of_length-le xs {i = i}) refl

  pub each_passes : (i : ℕ) (d : A) → i < length xs → f (get_or xs i d) ≡ true → each f (drop i xs) ≡ each f (drop (i + 1) xs)
  each_passes i d h k = each_here i d h ∙ rw k refl

  pub each_fails : (i : ℕ) (d : A) → i < length xs → f (get_or xs i d) ≡ false → each f (drop i xs) ≡ false
  each_fails i d h k = each_here i d h ∙ rw k refl

  -- of a loop that keeps a flag: the flag with what the entries from i on say
  module _ {all : Bool} (flag : Bool) (i : ℕ) (said : all ≡ (flag && each f (drop i xs))) where
    pub each_flag : (d : A) {next : Bool} → i < length xs → next ≡ (flag && f (get_or xs i d)) → all ≡ (next && each f (drop (i + 1) xs))
    each_flag d {next} h e = said ∙ rw (e, each_here i d h) (sym (and_assoc flag (f (get_or xs i d)) (each f (drop (i + 1) xs))))

    pub each_flag_end : length xs ≤ i → flag ≡ all
    each_flag_end h = sym (said ∙ rw (each_end i h) (and-true flag))

-- a test that is not run: each entry passes by its width
pub all_small : (xs : List ℕ) (high n : ℕ) → ((i : ℕ) → get_or xs i 0 ≤ high) → all_to n (λ (i : ℕ). leb (at xs i) high) ≡ true
all_small xs high zero h = refl
all_small xs high (suc n) h = rw (all_small xs high n h, le-leb _ _ (h n)) refl
