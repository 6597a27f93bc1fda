-- What is asked of a stage; a weight of 8 bits is in range.
use Prim.Native.Nat.{ℕ, ◌≤◌}
use mathlib.Core.Bool.{◌&&◌, and-true}
use mathlib.Core.List.{List}
use mathlib.Core.Path.{◌≡◌, refl}
use lib.Dec.{leb}
use lib.ListN.{get_or}
use Rattle.model.specs.Limits.{max_units}
use Rattle.model.specs.Numbers.{at, all_to, some_to}
use Rattle.model.specs.Soundness.{zero_beyond, sound_stage}
use Rattle.model.proofs.Search.{all_small}

pub stage_tests : (resources rows : ℕ) (capacity demand weight : List ℕ) → ((i : ℕ) → get_or weight i 0 ≤ 255)
    → sound_stage resources rows capacity (record { demand = demand; weight = weight })
    ≡ (all_to resources (λ r. leb (at demand r) (at capacity r)) && some_to resources (λ r. leb 1 (at demand r)) && zero_beyond resources demand
    && zero_beyond rows weight)
unfolding sound_stage
stage_tests resources rows capacity demand weight small = rw (all_small weight max_units rows small, and-true) refl
