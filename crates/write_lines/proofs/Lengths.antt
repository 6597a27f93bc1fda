-- The lines of the output have at most 24, 35 and 84 bytes, whatever their numbers are.
use Prim.Native.Nat.{ℕ, ◌^◌, ◌≤◌, ◌<◌}
use native.Mathlib.Omega.{arith}
use mathlib.Core.List.{[], ◌∷◌, ◌++◌}
use lib.ListN.{length, length-append}
use Rattle.plan_text.specs.Lines.{line_end, tab}
use Rattle.moves_text.specs.Decimals.{decimal}
use Rattle.moves_text.specs.OutputLines.{plan_line, check_line, event_line}
use Rattle.moves_text.proofs.Decimals.{decimal_short}

pub plan_line_bounded : (number line : ℕ) → number < 2 ^ 32 → line < 2 ^ 32 → length (plan_line number line) ≤ 24
plan_line_bounded number line n l =
    omega (
      arith,
      length-append (decimal number) (tab ∷ decimal line ++ line_end ∷ []),
      length-append (decimal line) (line_end ∷ []),
      decimal_short 10 number (omega arith) (omega arith),
      decimal_short 10 line (omega arith) (omega arith),
    )

pub check_line_bounded : (number first second : ℕ) → number < 2 ^ 32 → first < 2 ^ 32 → second < 2 ^ 32 → length (check_line number first second) ≤ 35
check_line_bounded number first second n f s =
    let last = decimal second ++ line_end ∷ [] in
    omega (
      arith,
      length-append (decimal number) (tab ∷ decimal first ++ tab ∷ last),
      length-append (decimal first) (tab ∷ last),
      length-append (decimal second) (line_end ∷ []),
      decimal_short 10 number (omega arith) (omega arith),
      decimal_short 10 first (omega arith) (omega arith),
      decimal_short 10 second (omega arith) (omega arith),
    )

pub event_line_bounded : (ordinal number place active : ℕ) → ordinal < 2 ^ 64 → number < 2 ^ 32 → place < 2 ^ 32 → active < 2 ^ 64
    → length (event_line ordinal number place active) ≤ 84
event_line_bounded ordinal number place active o n p a =
    let last = decimal active ++ line_end ∷ [] in
    let third = decimal place ++ tab ∷ last in
    let second = decimal number ++ tab ∷ third in
    omega (
      arith,
      length-append (decimal ordinal) (tab ∷ second),
      length-append (decimal number) (tab ∷ third),
      length-append (decimal place) (tab ∷ last),
      length-append (decimal active) (line_end ∷ []),
      decimal_short 20 ordinal (omega arith) (omega arith),
      decimal_short 10 number (omega arith) (omega arith),
      decimal_short 10 place (omega arith) (omega arith),
      decimal_short 20 active (omega arith) (omega arith),
    )
