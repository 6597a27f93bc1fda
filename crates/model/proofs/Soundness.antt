-- The computed test decides soundness: each part of the test decides the part of the definition that it computes, and the
-- parts together are the record.
use Prim.Native.Nat.{ℕ, ◌≤◌}
use native.Mathlib.Omega.{arith}
use mathlib.Core.Bool.{Bool, true, cond, ◌&&◌}
use mathlib.Core.List.{List}
use mathlib.Core.Logic.{◌⊎◌}
use mathlib.Core.Path.{◌≡◌, refl, sym, ap}
use lib.Dec.{leb}
use lib.ListN.{length}
use Rattle.model.specs.Limits.{max_resources, max_types, max_rows, max_stages, max_all_stages, max_units, max_bound}
use Rattle.model.specs.Numbers.{InRange, entry, all_to}
use Rattle.model.specs.Plan.{no_stage, empty_plan, capacity_of, rank_of, bound_of, length_of, IsStage, all_stages, stage_of, demand_of, weight_of}
use Rattle.model.specs.Soundness.{ZeroBeyond, EmptyStage, AllRanked, NoneRanked, SoundStage, Sound, zero_beyond, empty_stage}
use Rattle.model.specs.Soundness.{sound_counts, sound_capacities, sound_ranks, sound_lengths, sound_bounds, sound_stage, sound}
use Rattle.model.specs.declared.Stage.{Stage}
use Rattle.model.specs.declared.Plan.{Plan}
use Rattle.model.proofs.Decide.{Decides, holds, decides_iff, ◌and◌, decides_or, decides_le, decides_eq, decides_range}
use Rattle.model.proofs.Decide.{decides_all, decides_some, decides_beyond}
use Rattle.model.proofs.Flat.{all_split, each_beyond, stage_at_lem, stages_flat}

pub decides_zero_beyond : (n : ℕ) (xs : List ℕ) → Decides (ZeroBeyond n xs) (zero_beyond n xs)
decides_zero_beyond n xs = decides_beyond {P = λ x. x ≡ 0} (λ x. decides_eq x 0) 0 refl n xs

pub decides_empty_stage : (s : Stage) → Decides (EmptyStage s) (empty_stage s)
decides_empty_stage s = decides_zero_beyond 0 s.demand and decides_zero_beyond 0 s.weight

-- over the stages of a plan
pub decides_stages : (p : Plan) (P : ℕ → ℕ → Type 0) (f : ℕ → ℕ → Bool) → ((t k : ℕ) → IsStage p t k → Decides (P t k) (f t k))
    → Decides ((t k : ℕ) → IsStage p t k → P t k) (all_to p.types (λ t. all_to (length_of p t) (f t)))
decides_stages p P f d =
    decides_iff (λ all t k h. all t h.0 k h.1) (λ all t ht k hk. all t k (ht, hk))
    (decides_all _ _ p.types (λ t ht. decides_all (P t) (f t) (length_of p t) (λ k hk. d t k (ht, hk))))

pub decides_sound_stage : (p : Plan) (t k : ℕ) → Decides (SoundStage p t k) (sound_stage p.resources p.rows p.capacity (stage_of p t k))
unfolding sound_stage demand_of weight_of
decides_sound_stage p t k =
    decides_iff
    (λ h. record { demands = h.0.0.0.0; some = h.0.0.0.1; weights = h.0.0.1; no_more_demands = h.0.1; no_more_weights = h.1 })
    (λ s. ((((s.demands, s.some), s.weights), s.no_more_demands), s.no_more_weights))
    (decides_all _ _ p.resources (λ r h. decides_le (demand_of p r t k) (capacity_of p r))
    and decides_some _ _ p.resources (λ r h. decides_le 1 (demand_of p r t k))
    and decides_all _ _ p.rows (λ w h. decides_le (weight_of p w t k) max_units)
    and decides_zero_beyond p.resources (stage_of p t k).demand
    and decides_zero_beyond p.rows (stage_of p t k).weight)

module _ (p : Plan) where
  -- the parts of soundness, nested as the parts of the test are
  abbrev Counts : Type 0
  Counts = (InRange p.resources max_resources × InRange p.types max_types) × (p.rows ≤ max_rows)

  abbrev Capacities : Type 0
  Capacities = ((r : ℕ) → InRange r p.resources → InRange (capacity_of p r) max_units) × ZeroBeyond p.resources p.capacity

  abbrev Ranks : Type 0
  Ranks = (AllRanked p ⊎ NoneRanked p) × ZeroBeyond p.resources p.rank

  abbrev Lengths : Type 0
  Lengths =
      (((t : ℕ) → InRange t p.types → InRange (length_of p t) max_stages) × (all_stages p ≤ max_all_stages)) × ZeroBeyond p.types p.lengths

  abbrev Bounds : Type 0
  Bounds = ((w : ℕ) → InRange w p.rows → bound_of p w ≤ max_bound) × ZeroBeyond p.rows p.bound

  pub counts : Decides Counts (sound_counts p.resources p.types p.rows)
  unfolding sound_counts
  counts = decides_range p.resources max_resources and decides_range p.types max_types and decides_le p.rows max_rows

  capacities : Decides Capacities (sound_capacities p.resources p.capacity)
  unfolding sound_capacities
  capacities =
      decides_all _ _ p.resources (λ r h. decides_range (capacity_of p r) max_units) and decides_zero_beyond p.resources p.capacity

  ranks : Decides Ranks (sound_ranks p.resources p.rank)
  unfolding sound_ranks
  ranks =
      decides_or (decides_all _ _ p.resources (λ r h. decides_range (rank_of p r) max_units))
      (decides_all _ _ p.resources (λ r h. decides_eq (rank_of p r) 0))
      and decides_zero_beyond p.resources p.rank

  lengths : Decides Lengths (sound_lengths p.types p.lengths)
  unfolding sound_lengths all_stages
  lengths =
      decides_all _ _ p.types (λ t h. decides_range (length_of p t) max_stages)
      and decides_le (all_stages p) max_all_stages
      and decides_zero_beyond p.types p.lengths

  bounds : Decides Bounds (sound_bounds p.rows p.bound)
  unfolding sound_bounds
  bounds = decides_all _ _ p.rows (λ w h. decides_le (bound_of p w) max_bound) and decides_zero_beyond p.rows p.bound

  pub decides_sound : Decides (Sound p) (sound p)
  unfolding sound
  decides_sound =
      decides_iff
      (λ h. record {
        resources = h.0.0.0.0.0.0.0.0;
        types = h.0.0.0.0.0.0.0.1;
        rows = h.0.0.0.0.0.0.1;
        capacities = h.0.0.0.0.0.1.0;
        ranks = h.0.0.0.0.1.0;
        bounds = h.0.0.1.0;
        lengths = h.0.0.0.1.0.0;
        total = h.0.0.0.1.0.1;
        stages = h.0.1;
        no_more_capacities = h.0.0.0.0.0.1.1;
        no_more_ranks = h.0.0.0.0.1.1;
        no_more_bounds = h.0.0.1.1;
        no_more_lengths = h.0.0.0.1.1;
        no_more_stages = h.1;
      })
      (λ s.
      let of-counts : Counts = ((s.resources, s.types), s.rows) in
      let of-capacities : Capacities = (s.capacities, s.no_more_capacities) in
      let of-ranks : Ranks = (s.ranks, s.no_more_ranks) in
      let of-lengths : Lengths = ((s.lengths, s.total), s.no_more_lengths) in
      let of-bounds : Bounds = (s.bounds, s.no_more_bounds) in
      ((((((of-counts, of-capacities), of-ranks), of-lengths), of-bounds), s.stages), s.no_more_stages))
      (counts
      and capacities
      and ranks
      and lengths
      and bounds
      and decides_stages p (SoundStage p) (λ (t k : ℕ). sound_stage p.resources p.rows p.capacity (stage_of p t k)) (λ t k h. decides_sound_stage p t k)
      and decides_beyond decides_empty_stage no_stage (holds (decides_empty_stage no_stage) refl) (all_stages p) p.stages)

  -- the tests before those of the stages
  abbrev pub sound_before : Bool
  sound_before =
      sound_counts p.resources p.types p.rows
      && sound_capacities p.resources p.capacity
      && sound_ranks p.resources p.rank
      && sound_lengths p.types p.lengths
      && sound_bounds p.rows p.bound

  -- of an entry of `stages`: up to the number of stages it is a sound stage, and beyond it is empty
  abbrev pub sound_entry : ℕ → Bool
  sound_entry i =
      let s = entry p.stages i no_stage in
      cond (leb i (all_stages p)) (sound_stage p.resources p.rows p.capacity s) (empty_stage s)

  -- the stages and what stands beyond them in one pass
  pub sound_flat : sound_before ≡ true → length p.stages ≡ max_all_stages → sound p ≡ all_to (length p.stages) sound_entry
  unfolding sound
  sound_flat h l =
      let test = sound_stage p.resources p.rows p.capacity in
      let small : all_stages p ≤ max_all_stages = (holds (counts and capacities and ranks and lengths and bounds) h).0.1.0.1 in
      let stages = stages_flat p (λ t k. test (stage_of p t k)) (λ i. test (entry p.stages i no_stage)) (λ t k s. ap test (stage_at_lem p t k s)) in
      rw (h, stages, each_beyond empty_stage no_stage (all_stages p) p.stages)
      (sym (all_split (all_stages p) (length p.stages) _ _ (omega arith)))

pub empty_plan_unsound : ¬ Sound empty_plan
unfolding empty_plan
empty_plan_unsound h = omega (arith, h.resources)
