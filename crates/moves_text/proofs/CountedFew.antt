-- How many lines a text has, and how many of them are counted: part by part, for every part but the last has its LF, and a line
-- that is counted has a byte beside it.
use Prim.Native.Nat.{ℕ, suc, ◌+◌, ◌*◌, ◌≤◌}
use native.Mathlib.Omega.{arith}
use mathlib.Core.Bool.{Bool, true, false, cond}
use mathlib.Core.List.{List, [], ◌∷◌, map}
use mathlib.Core.Path.{◌≡◌, subst}
use lib.ListN.{length, length-append}
use Rattle.plan_text.specs.Lines.{line_end, split_by, lines_in, lines_of}
use Rattle.plan_text.proofs.Split.{joined_by, split_joined}
use Rattle.moves_text.specs.Division.{is_e, length_before, plan_length}
use Rattle.moves_text.specs.EventLines.{event_in, counted, counted_in}
use Rattle.moves_text.specs.declared.EventLine.{EventLine}
use Rattle.moves_text.specs.declared.EventLine.TheVariants.{Skipped, Malformed, Given}

-- one part more, with its LF
joined_length : (p q : List ℕ) (ps : List (List ℕ))
    → length (joined_by line_end (p ∷ q ∷ ps)) ≡ length p + suc (length (joined_by line_end (q ∷ ps)))
joined_length p q ps = length-append p (line_end ∷ joined_by line_end (q ∷ ps))

lines_in_few : (ps : List (List ℕ)) → length (lines_in ps) ≤ length (joined_by line_end ps)
lines_in_few [] = omega arith
lines_in_few ([] ∷ []) = omega arith
lines_in_few ((b ∷ bs) ∷ []) = omega arith
lines_in_few (p ∷ q ∷ ps) = omega (arith, joined_length p q ps, lines_in_few (q ∷ ps))

pub lines_few : (text : List ℕ) → length (lines_of text) ≤ length text
lines_few text =
    subst (λ (bytes : List ℕ). length (lines_of text) ≤ length bytes) (split_joined line_end text) (lines_in_few (split_by line_end text))

-- so the plan is within the input
before_few : (ps : List (List ℕ)) → length_before (lines_in ps) ≤ length (joined_by line_end ps)
before_few [] = omega arith
before_few ([] ∷ []) = omega arith
before_few ((b ∷ bs) ∷ []) = omega arith
before_few (p ∷ q ∷ ps) = step (is_e p) (before_few (q ∷ ps))
  where
    step : (mark : Bool) → length_before (lines_in (q ∷ ps)) ≤ length (joined_by line_end (q ∷ ps))
        → cond mark 0 (length p + 1 + length_before (lines_in (q ∷ ps))) ≤ length (joined_by line_end (p ∷ q ∷ ps))
    step true h = omega arith
    step false h = omega (arith, joined_length p q ps)

pub plan_within : (input : List ℕ) → plan_length input ≤ length input
unfolding plan_length
plan_within input = rw (split_joined line_end input) at (before_few (split_by line_end input))

-- a line adds at most one counted line
counted_more : (l : EventLine) (ls : List EventLine) → length (counted (l ∷ ls)) ≤ suc (length (counted ls))
counted_more Skipped ls = omega arith
counted_more Malformed ls = omega arith
counted_more (Given e) ls = omega arith

counted_in_few : (ps : List (List ℕ)) → 2 * length (counted (map event_in (lines_in ps))) ≤ length (joined_by line_end ps) + 1
unfolding event_in
counted_in_few [] = omega arith
counted_in_few ([] ∷ []) = omega arith
counted_in_few ((b ∷ bs) ∷ []) = omega arith
counted_in_few ([] ∷ q ∷ ps) = omega (arith, joined_length [] q ps, counted_in_few (q ∷ ps))
counted_in_few ((b ∷ bs) ∷ q ∷ ps) =
    omega (
      arith,
      joined_length (b ∷ bs) q ps,
      counted_more (event_in (record { bytes = b ∷ bs; ended = true })) (map event_in (lines_in (q ∷ ps))),
      counted_in_few (q ∷ ps),
    )

pub counted_few : (text : List ℕ) → 2 * length (counted_in text) ≤ length text + 1
counted_few text =
    subst (λ (bytes : List ℕ). 2 * length (counted_in text) ≤ length bytes + 1) (split_joined line_end text) (counted_in_few (split_by line_end text))
