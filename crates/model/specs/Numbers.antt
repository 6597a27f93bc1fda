-- Entries, sums, tests and searches over the numbers 1 to n; the same over the entries of a list.
use Rattle.std.specs.Prelude.{ℕ, zero, suc, ◌+◌, ◌≤◌, ◌<◌, Bool, true, false, cond, ◌&&◌, ◌||◌, List, [], ◌∷◌, ◌++◌, ◌≡◌, ◌≢◌, get_or, leb, ltb, eqb}

-- i is one of 1 to n
abbrev pub InRange : ℕ → ℕ → Type 0
InRange i n = (1 ≤ i) × (i ≤ n)

-- its test
abbrev pub in_range : ℕ → ℕ → Bool
in_range i n = leb 1 i && leb i n

-- entry number i of a list, counted from 1, and d where there is none
abbrev pub entry : {A : Type 0} → List A → ℕ → A → A
entry xs zero d = d
entry xs (suc i) d = get_or xs i d

abbrev pub at : List ℕ → ℕ → ℕ
at xs i = entry xs i 0

-- f 1 + .. + f n
abbrev pub sum_to : ℕ → (ℕ → ℕ) → ℕ
sum_to zero f = 0
sum_to (suc n) f = sum_to n f + f (suc n)

-- the test passes at each of 1 to n
abbrev pub all_to : ℕ → (ℕ → Bool) → Bool
all_to zero f = true
all_to (suc n) f = all_to n f && f (suc n)

-- the test passes at some of 1 to n
abbrev pub some_to : ℕ → (ℕ → Bool) → Bool
some_to zero f = false
some_to (suc n) f = some_to n f || f (suc n)

-- the lowest of 1 to n at which the test fails, 0 if it fails at none
abbrev pub lowest : ℕ → (ℕ → Bool) → ℕ
lowest zero f = 0
lowest (suc n) f = let below = lowest n f in cond (eqb below 0) (cond (f (suc n)) 0 (suc n)) below

-- i is the lowest of 1 to n at which P does not hold
pub record Lowest (n : ℕ) (P : ℕ → Type 0) (i : ℕ) : Type 0 where
  pub within : InRange i n
  pub fails : ¬ P i
  pub below : (j : ℕ) → 1 ≤ j → j < i → P j

-- the lowest of those of 1 to n at which f is greatest, and f there; 0 and 0 if f is 0 at each
abbrev pub greatest : ℕ → (ℕ → ℕ) → ℕ × ℕ
greatest zero f = (0, 0)
greatest (suc n) f = let below = greatest n f in cond (ltb below.1 (f (suc n))) (suc n, f (suc n)) below

-- f is greatest at i of all of 1 to n, and of equals i is the lowest
pub record Greatest (n : ℕ) (f : ℕ → ℕ) (i : ℕ) : Type 0 where
  pub within : InRange i n
  pub most : (j : ℕ) → InRange j n → f j ≤ f i
  pub below : (j : ℕ) → 1 ≤ j → j < i → f j < f i

-- P holds of each entry of the list
abbrev pub Each : {A : Type 0} → (A → Type 0) → List A → Type 0
Each P [] = Unit {0}
Each P (x ∷ xs) = P x × Each P xs

-- its test
abbrev pub each : {A : Type 0} → (A → Bool) → List A → Bool
each f [] = true
each f (x ∷ xs) = f x && each f xs

-- a list split at one of its entries
pub record Split {A : Type 0} (xs : List A) : Type 0 where
  pub before : List A
  pub item : A
  pub after : List A
  pub whole : xs ≡ before ++ item ∷ after

-- no number of the list stands in it twice
abbrev pub Distinct : List ℕ → Type 0
Distinct [] = Unit {0}
Distinct (n ∷ ns) = Each (λ (m : ℕ). m ≢ n) ns × Distinct ns
