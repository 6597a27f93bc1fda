-- What a fold that goes through all entries says, as a test or a sum by number.
use Prim.Native.Nat.{ℕ, zero, suc, ◌+◌, ◌-◌, ◌≤◌}
use native.Mathlib.Omega.{arith}
use native.Mathlib.Numerals.{add-one}
use mathlib.Core.Bool.{Bool, true, ◌&&◌, and-true, and_assoc}
use mathlib.Core.List.{List, [], ◌∷◌}
use mathlib.Core.Path.{◌≡◌, refl, sym, ap, ◌∙◌}
use lib.ListN.{length, take, drop, length-drop}
use lib.Seq.{take_all}
use Rattle.std.proofs.Common.{length-take-le, get_or-take}
use Rattle.std.specs.List.{fold, sum}
use Rattle.std.proofs.lemmas.List.Sums.{sum_by_more}
use Rattle.model.specs.Numbers.{InRange, at, sum_to, all_to, each}
use Rattle.model.proofs.Flat.{all_cong, each_beyond}

pub fold_each : (f : ℕ → Bool) (ok : Bool) (xs : List ℕ) → fold (λ ok x. ok && f x) ok xs ≡ (ok && each f xs)
fold_each f ok [] = sym (and-true ok)
fold_each f ok (x ∷ xs) = fold_each f (ok && f x) xs ∙ and_assoc ok (f x) (each f xs)

-- of the first n
pub fold_front : (f : ℕ → Bool) (n : ℕ) (xs : List ℕ) → n ≤ length xs → fold (λ ok x. ok && f x) true (take n xs) ≡ all_to n (λ i. f (at xs i))
fold_front f n xs within =
    let long : length (take n xs) - 0 ≡ n = omega (arith, length-take-le n xs within) in
    fold_each f true (take n xs) ∙ each_beyond f 0 0 (take n xs) ∙ rw long (all_cong n _ (λ i. f (at xs i)) (λ i h. ap f (taken i h)))
  where
    taken : (i : ℕ) → InRange i n → at (take n xs) (0 + i) ≡ at xs i
    taken zero h = refl
    taken (suc i) h = let e : 0 + suc i ≡ suc i = omega arith in rw e (get_or-take n xs i 0 (omega arith))

pub sum_front : (n : ℕ) (xs : List ℕ) → n ≤ length xs → sum (take n xs) ≡ sum_to n (at xs)
sum_front zero xs h = refl
sum_front (suc n) xs h = rw (← add-one) (sum_by_more (λ (x : ℕ). x) xs n 0 h) ∙ ap (λ (s : ℕ). s + at xs (suc n)) (sum_front n xs (omega arith))

-- those behind the first n, as code lends them
pub rest : (n : ℕ) (xs : List ℕ) → take (length xs - n) (drop n xs) ≡ drop n xs
rest n xs = take_all (length xs - n) (drop n xs) (omega (arith, length-drop n xs))
