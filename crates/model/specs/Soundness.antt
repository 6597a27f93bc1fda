-- A sound plan (document 01's term): the ranges of the plan text, the total, a demand at every stage, ranks for all
-- resources or for none, and only zeros beyond the counts.
use Rattle.std.specs.Prelude.{ℕ, ◌≤◌, ◌<◌, Bool, ◌&&◌, ◌||◌, List, ◌≡◌, ◌⊎◌, drop, leb, eqb}
use Rattle.model.specs.Limits.{max_resources, max_types, max_rows, max_stages, max_all_stages, max_units, max_bound}
use Rattle.model.specs.Numbers.{InRange, in_range, entry, at, sum_to, all_to, some_to, each}
use Rattle.model.specs.Plan.{no_stage, capacity_of, rank_of, bound_of, length_of, IsStage, all_stages, stage_of, demand_of, weight_of, Demands}
use Rattle.model.specs.declared.Stage.{Stage}
use Rattle.model.specs.declared.Plan.{Plan}

-- the list holds only zeros beyond its first n entries
abbrev pub ZeroBeyond : ℕ → List ℕ → Type 0
ZeroBeyond n xs = (i : ℕ) → n < i → at xs i ≡ 0

abbrev pub EmptyStage : Stage → Type 0
EmptyStage s = ZeroBeyond 0 s.demand × ZeroBeyond 0 s.weight

abbrev pub AllRanked : Plan → Type 0
AllRanked p = (r : ℕ) → InRange r p.resources → InRange (rank_of p r) max_units

abbrev pub NoneRanked : Plan → Type 0
NoneRanked p = (r : ℕ) → InRange r p.resources → rank_of p r ≡ 0

pub record SoundStage (p : Plan) (t k : ℕ) : Type 0 where
  pub demands : (r : ℕ) → InRange r p.resources → demand_of p r t k ≤ capacity_of p r
  pub some : (r : ℕ) × InRange r p.resources × Demands p t k r
  pub weights : (w : ℕ) → InRange w p.rows → weight_of p w t k ≤ max_units
  pub no_more_demands : ZeroBeyond p.resources (stage_of p t k).demand
  pub no_more_weights : ZeroBeyond p.rows (stage_of p t k).weight

pub record Sound (p : Plan) : Type 0 where
  pub resources : InRange p.resources max_resources
  pub types : InRange p.types max_types
  pub rows : p.rows ≤ max_rows
  pub capacities : (r : ℕ) → InRange r p.resources → InRange (capacity_of p r) max_units
  pub ranks : AllRanked p ⊎ NoneRanked p
  pub bounds : (w : ℕ) → InRange w p.rows → bound_of p w ≤ max_bound
  pub lengths : (t : ℕ) → InRange t p.types → InRange (length_of p t) max_stages
  pub total : all_stages p ≤ max_all_stages
  pub stages : (t k : ℕ) → IsStage p t k → SoundStage p t k
  pub no_more_capacities : ZeroBeyond p.resources p.capacity
  pub no_more_ranks : ZeroBeyond p.resources p.rank
  pub no_more_bounds : ZeroBeyond p.rows p.bound
  pub no_more_lengths : ZeroBeyond p.types p.lengths
  pub no_more_stages : (i : ℕ) → all_stages p < i → EmptyStage (entry p.stages i no_stage)

-- the same, computed
abbrev pub zero_beyond : ℕ → List ℕ → Bool
zero_beyond n xs = each (λ (x : ℕ). eqb x 0) (drop n xs)

abbrev pub empty_stage : Stage → Bool
empty_stage s = zero_beyond 0 s.demand && zero_beyond 0 s.weight

-- of the counts, and of what is kept per resource, per type and per row: in range within the count, zeros beyond it
unfoldable pub sound_counts : ℕ → ℕ → ℕ → Bool
sound_counts resources types rows = in_range resources max_resources && in_range types max_types && leb rows max_rows

unfoldable pub sound_capacities : ℕ → List ℕ → Bool
sound_capacities n capacity = all_to n (λ (r : ℕ). in_range (at capacity r) max_units) && zero_beyond n capacity

unfoldable pub sound_ranks : ℕ → List ℕ → Bool
sound_ranks n rank =
    (all_to n (λ (r : ℕ). in_range (at rank r) max_units) || all_to n (λ (r : ℕ). eqb (at rank r) 0)) && zero_beyond n rank

unfoldable pub sound_lengths : ℕ → List ℕ → Bool
sound_lengths n lengths =
    all_to n (λ (t : ℕ). in_range (at lengths t) max_stages) && leb (sum_to n (at lengths)) max_all_stages && zero_beyond n lengths

unfoldable pub sound_bounds : ℕ → List ℕ → Bool
sound_bounds n bound = all_to n (λ (w : ℕ). leb (at bound w) max_bound) && zero_beyond n bound

-- of a stage, in a plan with so many resources and rows and these capacities
unfoldable pub sound_stage : ℕ → ℕ → List ℕ → Stage → Bool
sound_stage resources rows capacity s =
    all_to resources (λ (r : ℕ). leb (at s.demand r) (at capacity r))
    && some_to resources (λ (r : ℕ). leb 1 (at s.demand r))
    && all_to rows (λ (w : ℕ). leb (at s.weight w) max_units)
    && zero_beyond resources s.demand
    && zero_beyond rows s.weight

unfoldable pub sound : Plan → Bool
sound p =
    sound_counts p.resources p.types p.rows
    && sound_capacities p.resources p.capacity
    && sound_ranks p.resources p.rank
    && sound_lengths p.types p.lengths
    && sound_bounds p.rows p.bound
    && all_to p.types (λ (t : ℕ). all_to (length_of p t) (λ (k : ℕ). sound_stage p.resources p.rows p.capacity (stage_of p t k)))
    && each empty_stage (drop (all_stages p) p.stages)
