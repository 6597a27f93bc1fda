-- The number and the second place of a check fit 16 bits.
use Prim.Native.Nat.{ℕ, ◌≤◌}
use native.Mathlib.Omega.{arith}
use mathlib.Core.Logic.{inl, inr}
use mathlib.Core.Path.{◌≡◌, ap}
use Rattle.model.specs.Questions.{FirstFailure}
use Rattle.model.specs.Upstream.{check_numbers, CheckSays, check_conditions, check}
use Rattle.model.specs.declared.Plan.{Plan}
use Rattle.model.specs.declared.Check.{Check}
use Rattle.model.proofs.Upstream.{check_first_failure}

-- a stage has a number of at most 32 where the plan is sound, and the check names none where it is not
abbrev Small : Check → Type 0
Small c = ((check_numbers c).0 ≤ 65535) × ((check_numbers c).2 ≤ 65535)

says_small : (c : Check) (number first second : ℕ) → CheckSays number first second c → number ≤ 65535 → second ≤ 65535 → Small c
says_small c number first second says small low =
    let e0 : (check_numbers c).0 ≡ number = ap (λ (x : ℕ × ℕ × ℕ). x.0) says in
    let e2 : (check_numbers c).2 ≡ second = ap (λ (x : ℕ × ℕ × ℕ). x.2) says in
    (omega arith, omega arith)

pub check_packed_small : (p : Plan) → Small (check p)
check_packed_small p = asked (check_first_failure p)
  where
    asked : FirstFailure (CheckSays 0 0 0) (check_conditions p) (check p) → Small (check p)
    asked (inl f) = says_small (check p) 11 0 0 f.1 (omega arith) (omega arith)
    asked (inr (sound, inl f)) = says_small (check p) 21 0 0 f.1 (omega arith) (omega arith)
    asked (inr (sound, inr (ranked, inl (other, (t, k, says, kind, stage))))) =
        says_small (check p) 22 t k says (omega arith) (omega (arith, stage.within, sound.lengths t kind.within))
    asked (inr (sound, inr (ranked, inr (units, inl f)))) = says_small (check p) 23 0 0 f.1 (omega arith) (omega arith)
    asked (inr (sound, inr (ranked, inr (units, inr (rows, inl (other, (r, says, low))))))) = says_small (check p) 24 r 0 says (omega arith) (omega arith)
    asked (inr (sound, inr (ranked, inr (units, inr (rows, inr (weights, inl (other, (r, says, low)))))))) =
        says_small (check p) 25 r 0 says (omega arith) (omega arith)
    asked (inr (sound, inr (ranked, inr (units, inr (rows, inr (weights, inr (bounds, says))))))) =
        says_small (check p) 0 0 0 says (omega arith) (omega arith)
