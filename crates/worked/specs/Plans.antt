-- The plans of the worked runs, as values of the program's structs.
use Rattle.std.specs.Prelude.{ℕ, zero, suc, ◌+◌, ◌-◌, List, [], ◌∷◌, ◌++◌, length, replicate}
use Rattle.model.specs.Limits.{max_resources, max_types, max_rows, max_all_stages}
use Rattle.model.specs.declared.Stage.{Stage}
use Rattle.model.specs.declared.Plan.{Plan}
use Rattle.model.specs.declared.Job.{Job}

-- a list filled up to n entries
padded : {A : Type 0} → ℕ → A → List A → List A
padded n d xs = xs ++ replicate (n - length xs) d

stage : List ℕ → List ℕ → Stage
unfolding padded
stage demand weight = record { demand = padded max_resources 0 demand; weight = padded max_rows 0 weight }

-- capacities, ranks and bounds (one for each resource, resource and row), stages per type, and the stages
plan_of : List ℕ → List ℕ → List ℕ → List ℕ → List Stage → Plan
unfolding padded stage
plan_of capacity rank bound lengths stages =
    record {
      resources = length capacity;
      types = length lengths;
      rows = length bound;
      capacity = padded max_resources 0 capacity;
      rank = padded max_resources 0 rank;
      bound = padded max_rows 0 bound;
      lengths = padded max_types 0 lengths;
      stages = padded max_all_stages (stage [] []) stages;
    }

-- the crossing routes, type 1 over resources 1, 2, 3 and type 2 over 3, 2, 1, with each stage's weights
crossing : List ℕ → List ℕ → List ℕ → List ℕ → List ℕ → List ℕ → List Stage
unfolding padded stage
crossing a b c d e f =
    stage (1 ∷ []) a
    ∷ stage (0 ∷ 1 ∷ []) b
    ∷ stage (0 ∷ 0 ∷ 1 ∷ []) c
    ∷ stage (0 ∷ 0 ∷ 1 ∷ []) d
    ∷ stage (0 ∷ 1 ∷ []) e
    ∷ stage (1 ∷ []) f
    ∷ []

-- the crossing plan (document 01's term), with the bound of row 2 and the weight of row 1 at type 1 stage 2 left open
unfoldable pub crossing_with : ℕ → ℕ → Plan
unfolding padded stage plan_of crossing
crossing_with bound weight =
    plan_of (1 ∷ 1 ∷ 1 ∷ []) (1 ∷ 2 ∷ 1 ∷ []) (1 ∷ bound ∷ 1 ∷ []) (3 ∷ 3 ∷ [])
    (crossing (1 ∷ 1 ∷ []) (weight ∷ 1 ∷ []) (0 ∷ 0 ∷ 1 ∷ []) (0 ∷ 1 ∷ 1 ∷ []) (0 ∷ 1 ∷ []) (1 ∷ []))

unfoldable pub crossing_plan : Plan
unfolding crossing_with
crossing_plan = crossing_with 1 0

-- the crossing routes with capacities 1, 2, 1 and the rows of Equation 40
unfoldable pub equation40 : Plan
unfolding padded stage plan_of crossing
equation40 =
    plan_of (1 ∷ 2 ∷ 1 ∷ []) [] (6 ∷ 3 ∷ 8 ∷ []) (3 ∷ 3 ∷ [])
    (crossing (1 ∷ 0 ∷ 2 ∷ []) (0 ∷ 1 ∷ 2 ∷ []) [] (0 ∷ 2 ∷ 2 ∷ []) (3 ∷ 0 ∷ 3 ∷ []) [])

-- the same without rows
unfoldable pub without_rows : Plan
unfolding padded stage plan_of crossing
without_rows = plan_of (1 ∷ 2 ∷ 1 ∷ []) [] [] (3 ∷ 3 ∷ []) (crossing [] [] [] [] [] [])

-- one type with two stages on the only resource
unfoldable pub one_station : Plan
unfolding padded stage plan_of
one_station = plan_of (1 ∷ []) [] [] (2 ∷ []) (stage (1 ∷ []) [] ∷ stage (1 ∷ []) [] ∷ [])

-- one type with one stage on a resource of capacity 255: rows with these bounds, in which the stage has these weights
unfoldable pub one_stage : List ℕ → List ℕ → Plan
unfolding padded stage plan_of
one_stage bounds weights = plan_of (255 ∷ []) [] bounds (1 ∷ []) (stage (1 ∷ []) weights ∷ [])

-- as many jobs at stage k of type t, numbered from n
copies : ℕ → ℕ → ℕ → ℕ → List Job
copies t k n zero = []
copies t k n (suc count) = record { number = n; kind = t; stage = k } ∷ copies t k (n + 1) count

-- jobs per stage of the crossing routes, type 1 then type 2
unfoldable pub jobs_per_stage : ℕ → ℕ → ℕ → ℕ → ℕ → ℕ → List Job
unfolding copies
jobs_per_stage a b c d e f = copies 1 1 1 a ++ copies 1 2 11 b ++ copies 1 3 21 c ++ copies 2 1 31 d ++ copies 2 2 41 e ++ copies 2 3 51 f
