-- For code that chains tests with `&&` and keeps the result in a local: what the flag is where the branch that asked
-- the next test meets the branch that did not.
use mathlib.Core.Bool.{Bool, true, false, ◌&&◌, ◌||◌, and-true, and-false, or-true, or-false}
use mathlib.Core.Logic.{◌⊎◌, inl, inr}
use mathlib.Core.Path.{◌≡◌, sym, ◌∙◌}

-- `asked` is the flag before the test b, and it is a
module _ {P Q : Type 0} {asked a b flag : Bool} (e : asked ≡ a) where
  pub and_met : (P → (asked ≡ true) × (flag ≡ b)) → (Q → (asked ≡ false) × (flag ≡ asked)) → P ⊎ Q → flag ≡ (a && b)
  and_met passed failed (inl h) = rw (← e, (passed h).0) (passed h).1
  and_met passed failed (inr h) = rw (← e, (failed h).0) ((failed h).1 ∙ (failed h).0)

-- and for a loop that keeps a flag to its end: what it is after a turn that takes it down where a test fails, and after one
-- that puts it up where a test passes
module _ {P Q : Type 0} {flag test next : Bool} where
  pub flag_down : (P → (test ≡ false) × (next ≡ false)) → (Q → (test ≡ true) × (next ≡ flag)) → P ⊎ Q → next ≡ (flag && test)
  flag_down fails passes (inl h) = rw (fails h).0 ((fails h).1 ∙ sym (and-false flag))
  flag_down fails passes (inr h) = rw (passes h).0 ((passes h).1 ∙ sym (and-true flag))

  pub flag_up : (P → (test ≡ true) × (next ≡ true)) → (Q → (test ≡ false) × (next ≡ flag)) → P ⊎ Q → next ≡ (flag || test)
  flag_up passes fails (inl h) = rw (passes h).0 ((passes h).1 ∙ sym (or-true flag))
  flag_up passes fails (inr h) = rw (fails h).0 ((fails h).1 ∙ sym (or-false flag))
