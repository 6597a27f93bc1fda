-- The input has at most 65,536 bytes, so the offset behind its plan and the `E` is a number.
use Rattle.std.proofs.Common.{◌≡◌, ℕ, ◌+◌, ◌≤◌, List, length, Fits, w64, rules, arith}
use Rattle.moves_text.specs.Division.{plan_length}
use Rattle.moves_text.proofs.CountedFew.{plan_within}
use Rattle.test_host.proofs.main.Goals as goal

-- a plan's length and 2 more is a small number
small : (input : List ℕ) (n : ℕ) → length input ≤ 65536 → n ≡ plan_length input → Fits w64 (n + 2)
small input n short e = record { fits = omega (arith, short, e, plan_within input) }

pub overflow_add-plan_end : goal.overflow_add-plan_end
overflow_add-plan_end c = small _ _ (search rules) c.plan_length-plan_end.ensures
