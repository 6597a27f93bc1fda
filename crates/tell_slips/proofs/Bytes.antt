-- The last byte of a line, and its letter, which is what stands before its first tab.
use Prim.Native.Nat.{ℕ, ◌-◌}
use native.Mathlib.Omega.{arith}
use mathlib.Core.Bool.{Bool, true, false, cond, not}
use mathlib.Core.List.{List, [], ◌∷◌}
use mathlib.Core.Path.{◌≡◌, refl, ap}
use lib.Dec.{eqb}
use lib.ListN.{length, drop}
use Rattle.std.specs.List.{take_while, ends_with}
use Rattle.std.specs.Cmp.Lexicographic.{pointwise}
use Rattle.std.proofs.lemmas.List.Sums.{take_while-cons}
use Rattle.std.proofs.lemmas.Bool.Decides.{nat_tests}
use Rattle.plan_text.specs.Lines.{tab, wider, split_by, columns, letter_in}
use Rattle.told_text.specs.Slips.{ends_in_return}

abbrev untabbed : List ℕ → List ℕ
untabbed bytes = take_while (λ b. not (eqb b tab)) bytes

pub letter_taken : (bytes : List ℕ) → letter_in (columns bytes) ≡ take_while (λ b. not (eqb b tab)) bytes
letter_taken [] = refl
letter_taken (b ∷ bs) = rw (take_while-cons (λ b. not (eqb b tab)) b bs) (step (eqb b tab) (split_by tab bs) (letter_taken bs))
  where
    step : (here : Bool) (ps : List (List ℕ)) → letter_in ps ≡ untabbed bs
        → letter_in (cond here ([] ∷ ps) (wider b ps)) ≡ cond (not here) (b ∷ untabbed bs) []
    step true ps e = refl
    step false [] e = ap (λ (bs : List ℕ). b ∷ bs) e
    step false (p ∷ ps) e = ap (λ (bs : List ℕ). b ∷ bs) e

last_of : (b : ℕ) (bs : List ℕ) → pointwise eqb (13 ∷ []) (drop (length bs) (b ∷ bs)) ≡ ends_in_return (b ∷ bs)
last_of b [] = grind (arith, nat_tests)
last_of b (c ∷ cs) = last_of c cs

pub return_last : (bytes : List ℕ) → ends_with eqb bytes (13 ∷ []) ≡ ends_in_return bytes
return_last [] = refl
return_last (b ∷ bs) = let others : length (b ∷ bs) - 1 ≡ length bs = omega arith in rw others (last_of b bs)
