-- Counts that pass are within the arrays.
use Prim.Native.Nat.{ℕ, ◌≤◌}
use mathlib.Core.Bool.{Bool, true, false, ◌&&◌, false≢true}
use mathlib.Core.List.{List}
use mathlib.Core.Path.{◌≡◌, refl}
use borrow.Author.Tests.{leb-true}
use Rattle.model.specs.Limits.{max_resources, max_types}
use Rattle.model.specs.Numbers.{at, sum_to}
use Rattle.model.specs.Soundness.{sound_counts, sound_lengths}
use Rattle.model.proofs.Decide.{holds, ◌and◌, decides_le, decides_range}

pub counts_within : (resources types rows : ℕ) → sound_counts resources types rows ≡ true → (resources ≤ 32) × (types ≤ 16) × (rows ≤ 32)
unfolding sound_counts
counts_within resources types rows counted =
    let h = holds (decides_range resources max_resources and decides_range types max_types and decides_le rows 32) counted in
    (h.0.0.1, h.0.1.1, h.1)

-- and so is the total of lengths that pass
middle : (a b c : Bool) → (a && b && c) ≡ true → b ≡ true
middle true true c e = refl
middle true false c e = e
middle false b c e = absurd (false≢true e)

pub total_within : (n : ℕ) (lengths : List ℕ) → sound_lengths n lengths ≡ true → sum_to n (at lengths) ≤ 128
unfolding sound_lengths
total_within n lengths e = leb-true (sum_to n (at lengths)) 128 (middle _ _ _ e)
