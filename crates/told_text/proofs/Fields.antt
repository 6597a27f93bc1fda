-- A line has a field after each of its tabs, so one with more tabs than its letter has fields has a field too many.
use Prim.Native.Nat.{ℕ, suc, ◌+◌}
use native.Mathlib.Omega.{arith}
use mathlib.Core.Bool.{Bool, true, false, cond}
use mathlib.Core.List.{List, [], ◌∷◌}
use mathlib.Core.Path.{◌≡◌, refl}
use lib.Dec.{eqb}
use lib.ListN.{length}
use Rattle.std.proofs.lemmas.List.Sums.{sum_by-cons}
use Rattle.plan_text.specs.Lines.{tab, wider, split_by, columns, fields_in}
use Rattle.told_text.specs.Slips.{tabs_in}

parts_counted : (bytes : List ℕ) → length (split_by tab bytes) ≡ suc (tabs_in bytes)
parts_counted [] = refl
parts_counted (b ∷ bs) = rw (sum_by-cons (λ b. cond (eqb b tab) 1 0) b bs) (step (eqb b tab) (split_by tab bs) (parts_counted bs))
  where
    step : (here : Bool) (ps : List (List ℕ)) → length ps ≡ suc (tabs_in bs)
        → length (cond here ([] ∷ ps) (wider b ps)) ≡ suc (cond here 1 0 + tabs_in bs)
    step true ps e = omega arith
    step false [] e = absurd (omega arith)
    step false (p ∷ ps) e = omega arith

pub tabs_fields : (bytes : List ℕ) → tabs_in bytes ≡ length (fields_in (columns bytes))
tabs_fields bytes = step (split_by tab bytes) (parts_counted bytes)
  where
    step : (ps : List (List ℕ)) → length ps ≡ suc (tabs_in bytes) → tabs_in bytes ≡ length (fields_in ps)
    step [] e = absurd (omega arith)
    step (p ∷ ps) e = omega arith
