-- The plan as a resource allocation system, Definition 1 of source document 003: resources with their capacities, job
-- types made of stages, and a demand of units for each stage. Resources, types, stages and rows are named by their
-- numbers, from 1. Stages follow in number order, so a job that is allowed to go on ends after finitely many (Condition 1:
-- of the route alone, for under a plan that deadlocks it may never be allowed) and every stage of a type is on its route
-- (Condition 2).
use Rattle.std.specs.Prelude.{ℕ, ◌+◌, ◌-◌, ◌≤◌, Bool, cond, ◌&&◌, replicate}
use Rattle.model.specs.Limits.{max_resources, max_types, max_rows, max_all_stages}
use Rattle.model.specs.Numbers.{InRange, in_range, entry, at, sum_to}
use Rattle.model.specs.declared.Stage.{Stage}
use Rattle.model.specs.declared.Plan.{Plan}

-- what stands where no stage does
abbrev pub no_stage : Stage
no_stage = record { demand = replicate max_resources 0; weight = replicate max_rows 0 }

-- the empty plan (document 01's term)
unfoldable pub empty_plan : Plan
empty_plan =
    record {
      resources = 0;
      types = 0;
      rows = 0;
      capacity = replicate max_resources 0;
      rank = replicate max_resources 0;
      bound = replicate max_rows 0;
      lengths = replicate max_types 0;
      stages = replicate max_all_stages no_stage;
    }

abbrev pub capacity_of : Plan → ℕ → ℕ
capacity_of p r = at p.capacity r

-- 0 where no rank is given
abbrev pub rank_of : Plan → ℕ → ℕ
rank_of p r = at p.rank r

abbrev pub bound_of : Plan → ℕ → ℕ
bound_of p w = at p.bound w

-- the number of stages of type t
abbrev pub length_of : Plan → ℕ → ℕ
length_of p t = at p.lengths t

-- (t, k) is a stage of the plan
abbrev pub IsStage : Plan → ℕ → ℕ → Type 0
IsStage p t k = InRange t p.types × InRange k (length_of p t)

-- its test
unfoldable pub is_stage : Plan → ℕ → ℕ → Bool
is_stage p t k = in_range t p.types && in_range k (length_of p t)

-- the stages of all types together
unfoldable pub all_stages : Plan → ℕ
all_stages p = sum_to p.types (length_of p)

-- stage k of type t, where the plan has it: the stages are kept type by type
unfoldable pub stage_of : Plan → ℕ → ℕ → Stage
unfolding is_stage
stage_of p t k = cond (is_stage p t k) (entry p.stages (sum_to (t - 1) (length_of p) + k) no_stage) no_stage

-- the units of resource r that stage k of type t needs
unfoldable pub demand_of : Plan → ℕ → ℕ → ℕ → ℕ
demand_of p r t k = at (stage_of p t k).demand r

-- the weight of stage k of type t in row w
unfoldable pub weight_of : Plan → ℕ → ℕ → ℕ → ℕ
weight_of p w t k = at (stage_of p t k).weight w

-- stage k of type t demands resource r
abbrev pub Demands : Plan → ℕ → ℕ → ℕ → Type 0
Demands p t k r = 1 ≤ demand_of p r t k

-- the stage of type t after stage k
abbrev pub stage_after : Plan → ℕ → ℕ → ℕ
stage_after p t k = k + 1
