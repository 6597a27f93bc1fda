-- Jobs in the order they were loaded: what they hold, how a list of them changes, and when it agrees with a plan.
-- Over resources and rows jobs meet only in the sums below (Condition 4 of source document 003).
use Rattle.std.specs.Prelude.{ℕ, ◌+◌, ◌-◌, ◌*◌, ◌≤◌, ◌<◌, Bool, true, false, cond, not, ◌&&◌, ◌||◌, List, [], ◌∷◌, ◌++◌, map, ◌⊎◌, ◌≡◌, leb, ltb, eqb}
use Rattle.model.specs.Limits.{max_number}
use Rattle.model.specs.Numbers.{InRange, in_range, at, sum_to, lowest, Lowest, greatest, Greatest, Each, each, Split, Distinct}
use Rattle.model.specs.Plan.{length_of, IsStage, demand_of, weight_of, capacity_of, bound_of, stage_after}
use Rattle.model.specs.declared.Plan.{Plan}
use Rattle.model.specs.declared.Job.{Job}

-- what stands where no job does
abbrev pub no_job : Job
no_job = record { number = 0; kind = 0; stage = 0 }

abbrev pub is_at : Job → ℕ → ℕ → Bool
is_at j t k = eqb j.kind t && eqb j.stage k

-- the jobs at stage k of type t
abbrev pub jobs_at : List Job → ℕ → ℕ → ℕ
jobs_at [] t k = 0
jobs_at (j ∷ js) t k = cond (is_at j t k) 1 0 + jobs_at js t k

-- the sum over all stages of an amount × the jobs at that stage: the left side of Equation 1
unfoldable pub over_stages : Plan → (ℕ → ℕ → ℕ) → List Job → ℕ
over_stages p f js = sum_to p.types (λ (t : ℕ). sum_to (length_of p t) (λ (k : ℕ). f t k * jobs_at js t k))

-- the units of resource r that the present stages demand, and the sum of row w
abbrev pub units_held : Plan → ℕ → List Job → ℕ
units_held p r js = over_stages p (demand_of p r) js

abbrev pub row_sum : Plan → ℕ → List Job → ℕ
row_sum p w js = over_stages p (weight_of p w) js

-- no capacity is exceeded, and every row is kept: Equation 1
abbrev pub KeepsCapacities : Plan → List Job → Type 0
KeepsCapacities p js = (r : ℕ) → InRange r p.resources → units_held p r js ≤ capacity_of p r

abbrev pub KeepsRows : Plan → List Job → Type 0
KeepsRows p js = (w : ℕ) → InRange w p.rows → row_sum p w js ≤ bound_of p w

-- r is the lowest resource exceeded
abbrev pub Exceeded : Plan → List Job → ℕ → Type 0
Exceeded p js r = Lowest p.resources (λ (i : ℕ). units_held p i js ≤ capacity_of p i) r

-- by how much row w is exceeded, its sum less its bound; 0 where it is kept
abbrev pub row_excess : Plan → ℕ → List Job → ℕ
row_excess p w js = row_sum p w js - bound_of p w

-- w is the row exceeded by the most and, of equals, the lowest (change request S-2)
abbrev pub Broken : Plan → List Job → ℕ → Type 0
Broken p js w = (bound_of p w < row_sum p w js) × Greatest p.rows (λ (i : ℕ). row_excess p i js) w

-- what the row test says of these jobs: 0 and 0 where every row is kept, and else the row exceeded by the most and its excess
abbrev pub RowTest : Plan → List Job → ℕ → ℕ → Type 0
RowTest p js row excess = (KeepsRows p js × (row ≡ 0) × (excess ≡ 0)) ⊎ (Broken p js row × (excess ≡ row_excess p row js))

-- the same sum as it is computed, job by job
abbrev pub over_jobs : (ℕ → ℕ → ℕ) → List Job → ℕ
over_jobs f [] = 0
over_jobs f (j ∷ js) = f j.kind j.stage + over_jobs f js

-- the same, computed: the lowest resource exceeded, 0 for none
unfoldable pub exceeded : Plan → List Job → ℕ
exceeded p js = lowest p.resources (λ (r : ℕ). leb (over_jobs (demand_of p r) js) (capacity_of p r))

-- the excess of row w; the row exceeded by the most and its excess, 0 and 0 where every row is kept; and the row alone
abbrev pub excess_of : Plan → List Job → ℕ → ℕ
excess_of p js w = over_jobs (weight_of p w) js - bound_of p w

unfoldable pub worst_row : Plan → List Job → ℕ × ℕ
worst_row p js = greatest p.rows (excess_of p js)

abbrev pub broken : Plan → List Job → ℕ
broken p js = (worst_row p js).0

-- the number is active (document 01's term): a job of the list has it; with what stands before and after that job
pub record Active (n : ℕ) (js : List Job) : Type 0 where
  pub here : Split js
  pub numbered : here.item.number ≡ n

-- the same, computed: is the number active, and which job has it
abbrev pub has_number : ℕ → Job → Bool
has_number n j = eqb j.number n

abbrev pub is_active : ℕ → List Job → Bool
is_active n [] = false
is_active n (j ∷ js) = has_number n j || is_active n js

abbrev pub job_of : ℕ → List Job → Job
job_of n [] = no_job
job_of n (j ∷ js) = cond (has_number n j) j (job_of n js)

-- a job as it is loaded, and as it stands after an advance
abbrev pub loaded_job : ℕ → ℕ → Job
loaded_job n t = record { number = n; kind = t; stage = 1 }

abbrev pub advanced_job : Plan → Job → Job
advanced_job p j = record { number = j.number; kind = j.kind; stage = stage_after p j.kind j.stage }

-- a job has a next stage, and a job is at its last stage
abbrev pub HasNext : Plan → Job → Type 0
HasNext p j = j.stage < length_of p j.kind

abbrev pub IsLast : Plan → Job → Type 0
IsLast p j = j.stage ≡ length_of p j.kind

-- their tests
abbrev pub has_next : Plan → Job → Bool
has_next p j = ltb j.stage (length_of p j.kind)

abbrev pub is_last : Plan → Job → Bool
is_last p j = eqb j.stage (length_of p j.kind)

-- the list with one of its jobs advanced, and without it
abbrev pub advanced_at : Plan → {js : List Job} → Split js → List Job
advanced_at p s = s.before ++ advanced_job p s.item ∷ s.after

abbrev pub removed_at : {js : List Job} → Split js → List Job
removed_at s = s.before ++ s.after

-- the same, computed by the job's number: a load comes last, an advance keeps its position, a removal closes the gap
abbrev pub loaded : ℕ → ℕ → List Job → List Job
loaded n t js = js ++ loaded_job n t ∷ []

abbrev pub advanced : Plan → ℕ → List Job → List Job
advanced p n [] = []
advanced p n (j ∷ js) = cond (has_number n j) (advanced_job p j ∷ js) (j ∷ advanced p n js)

abbrev pub removed : ℕ → List Job → List Job
removed n [] = []
removed n (j ∷ js) = cond (has_number n j) js (j ∷ removed n js)

abbrev pub numbers : List Job → List ℕ
numbers js = map (λ (j : Job). j.number) js

-- a job's number is in range, and its type and stage are of the plan
abbrev pub Numbered : Job → Type 0
Numbered j = InRange j.number max_number

abbrev pub AtStage : Plan → Job → Type 0
AtStage p j = IsStage p j.kind j.stage

-- the jobs agree with the plan: what document 01 asks of the jobs of an agreeing table
pub record Agreeing (p : Plan) (js : List Job) : Type 0 where
  pub numbered : Each Numbered js
  pub distinct : Distinct (numbers js)
  pub staged : Each (AtStage p) js
  pub capacities : KeepsCapacities p js
  pub rows : KeepsRows p js

-- the same, computed
abbrev pub distinct : List ℕ → Bool
distinct [] = true
distinct (n ∷ ns) = each (λ (m : ℕ). not (eqb m n)) ns && distinct ns

-- a job's number is in range and its type and stage are of a plan with so many types, and so many stages of each
unfoldable pub fits : ℕ → List ℕ → Job → Bool
fits types lengths j = in_range j.number max_number && in_range j.kind types && in_range j.stage (at lengths j.kind)

unfoldable pub agreeing : Plan → List Job → Bool
agreeing p js =
    each (fits p.types p.lengths) js && distinct (numbers js) && eqb (exceeded p js) 0 && eqb (broken p js) 0
