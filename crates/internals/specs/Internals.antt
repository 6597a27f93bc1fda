-- What the parts of the entrances compute, each under one name. No promise rests on these but that of the row test, `worst_after`: the contracts of
-- the entrances are equations with the definitions of `events` and `model`.
use Rattle.std.specs.Prelude.{ℕ, zero, suc, ◌+◌, ◌-◌, ◌≤◌, Bool, true, cond, ◌&&◌, List, [], ◌∷◌, ◌++◌, ◌≡◌, length, take, drop, get_or, set, replicate, leb, ltb, eqb}
use Rattle.std.specs.Prelude.{Option, None, Some, is_none, Result, Ok, Err}
use Rattle.std.specs.List.{position_from}
use Rattle.model.specs.Limits.{max_resources, max_rows, max_all_stages, max_number, max_jobs}
use Rattle.model.specs.Numbers.{InRange, in_range, at, sum_to, lowest, greatest, Each, each}
use Rattle.model.specs.Questions.{ask, answer_of}
use Rattle.model.specs.Plan.{length_of, demand_of, weight_of}
use Rattle.model.specs.Jobs.{no_job, over_jobs, has_number, is_active, job_of, numbers, AtStage, distinct, fits}
use Rattle.model.specs.Soundness.{Sound}
use Rattle.model.specs.declared.Plan.{Plan}
use Rattle.model.specs.declared.Stage.{Stage}
use Rattle.model.specs.declared.Job.{Job}
use Rattle.events.specs.JobList.{jobs_of, list_of, is_no_job}
use Rattle.events.specs.Events.{agreement, answer, is_admitted, kept_answer, jobs_after}
use Rattle.events.specs.Drain.{move_of}
use Rattle.events.specs.declared.JobList.{JobList}
use Rattle.events.specs.declared.ListOutcome.{ListOutcome}
use Rattle.events.specs.declared.Answer.{Answer}
use Rattle.events.specs.declared.Answer.TheVariants.{Admitted, BadNumber, WrongActivity, UnknownType, Full, WrongStage}
use Rattle.internals.specs.declared.Sums.{Sums}
use Rattle.internals.specs.declared.Ceilings.{Ceilings}
use Rattle.internals.specs.declared.WorstRow.{WorstRow}
use Rattle.internals.specs.declared.Found.{Found}
use Rattle.internals.specs.declared.Agreed.{Agreed}
use Rattle.internals.specs.declared.StageAsked.{StageAsked}
use Rattle.internals.specs.declared.StageAsked.TheVariants.{Next, Last, Any}

-- the list f 1, .., f n
abbrev pub tabulate : ℕ → (ℕ → ℕ) → List ℕ
tabulate zero f = []
tabulate (suc n) f = tabulate n f ++ f (suc n) ∷ []

-- where stage k of type t stands among all stages, counted from 0, with so many stages of each type
unfoldable pub stage_index : List ℕ → ℕ → ℕ → ℕ
stage_index lengths t k = sum_to (t - 1) (at lengths) + (k - 1)

-- the same with so many types; 128 where there is no such stage
abbrev pub index_in : List ℕ → ℕ → ℕ → ℕ → ℕ
index_in lengths types t k = cond (in_range t types && in_range k (at lengths t)) (stage_index lengths t k) max_all_stages

-- 32 amounts, each of at most this much
pub record Few (most : ℕ) (amounts : List ℕ) : Type 0 where
  pub lanes : length amounts ≡ 32
  pub low : (i : ℕ) → InRange i 32 → at amounts i ≤ most

-- each of 32 amounts has grown by its own, which is at most 255
pub record Grown (amounts more after : List ℕ) : Type 0 where
  pub lanes : length after ≡ 32
  pub sum : (i : ℕ) → InRange i 32 → at after i ≡ at amounts i + at more i
  pub low : (i : ℕ) → InRange i 32 → at after i ≤ at amounts i + 255

-- the sums over these jobs, and over none
unfoldable pub sums_of : Plan → List Job → Sums
sums_of p js =
    record {
      units = tabulate max_resources (λ (r : ℕ). over_jobs (demand_of p r) js);
      rows = tabulate max_rows (λ (w : ℕ). over_jobs (weight_of p w) js);
    }

abbrev pub no_sums : Sums
no_sums = record { units = replicate max_resources 0; rows = replicate max_rows 0 }

-- what a plan holds the sums against
abbrev pub ceilings_of : Plan → Ceilings
ceilings_of p = record { capacity = p.capacity; bound = p.bound }

-- what questions hand on that were answered so: x where that is the acceptance, and else the refusal
abbrev pub unless_refused : {A : Type 0} → Answer → A → Result A Answer
unless_refused a x = cond (is_admitted a) (Ok x) (Err a)

-- the lowest of n amounts that is above its ceiling once the old is given back and the new taken; 0 for none
unfoldable pub lowest_after : ℕ → List ℕ → List ℕ → List ℕ → List ℕ → ℕ
lowest_after n amounts old new ceilings = lowest n (λ (i : ℕ). leb (at amounts i - at old i + at new i) (at ceilings i))

-- the one of n amounts that is then above its ceiling by the most, of equals the lowest, and by how much; 0 and 0 for none
unfoldable pub greatest_after : ℕ → List ℕ → List ℕ → List ℕ → List ℕ → WorstRow
greatest_after n amounts old new ceilings =
    let most = greatest n (λ (i : ℕ). at amounts i - at old i + at new i - at ceilings i) in
    record { row = most.0; excess = most.1 }

-- the row exceeded by the most once one stage is exchanged for another, and its excess: what change request S-2 promises to all who use the row test
abbrev pub worst_after : List ℕ → List ℕ → List ℕ → List ℕ → WorstRow
worst_after sums old new bounds = greatest_after max_rows sums old new bounds

-- the amounts of the jobs afterwards are those of the jobs now with the old given back and the new taken
abbrev pub Exchanged : (ℕ → ℕ → ℕ) → List Job → List Job → ℕ → ℕ → Type 0
Exchanged f js next old new = (over_jobs f next + old ≡ over_jobs f js + new) × (old ≤ over_jobs f js)

pub record Exchange (p : Plan) (js next : List Job) (old new : Stage) : Type 0 where
  pub units : (r : ℕ) → Exchanged (demand_of p r) js next (at old.demand r) (at new.demand r)
  pub rows : (w : ℕ) → Exchanged (weight_of p w) js next (at old.weight w) (at new.weight w)

-- where `worst_after` is the row test as worded, `RowTest`, of the jobs afterwards (`row_tested`): the plan is sound, the sums are those over the jobs
-- now, the ceilings are the plan's, exchanging the stages leads to the jobs afterwards, and each of these stands at a stage of the plan
pub record RowTestApplies (p : Plan) (js next : List Job) (s : Sums) (old new : Stage) (c : Ceilings) : Type 0 where
  pub sound : Sound p
  pub sums : s ≡ sums_of p js
  pub ceilings : c ≡ ceilings_of p
  pub exchange : Exchange p js next old new
  pub staged : Each (AtStage p) next

-- questions 18 and 19 once one stage is exchanged for another
unfoldable pub kept_after : Sums → Stage → Stage → Ceilings → Answer
kept_after s old new c =
    kept_answer (lowest_after max_resources s.units old.demand new.demand c.capacity) (worst_after s.rows old.weight new.weight c.bound).row

-- the position of the job with this number, counted from 0; as many as there are jobs where none has it
abbrev pub position_of : ℕ → List Job → ℕ
position_of n [] = 0
position_of n (j ∷ js) = cond (has_number n j) 0 (suc (position_of n js))

-- what a search for the number finds
abbrev pub found_in : ℕ → List Job → Option Found
found_in n js = cond (is_active n js) (Some (record { at = position_of n js; job = job_of n js })) None

-- what a refused event hands back
abbrev pub refusal : Answer → JobList → ListOutcome
refusal a t = record { answer = a; list = t }

-- question 17 at this stage of a type with so many stages; and of a job
abbrev pub stage_meets : StageAsked → ℕ → ℕ → Bool
stage_meets Next stage length = ltb stage length
stage_meets Last stage length = eqb stage length
stage_meets Any stage length = true

abbrev pub stage_met : Plan → StageAsked → Job → Bool
stage_met p wanted j = stage_meets wanted j.stage (length_of p j.kind)

-- questions 13 to 16 of a load into a plan with so many types, by the count of jobs and what the search for the number found
unfoldable pub load_answer : ℕ → Option Found → ℕ → ℕ → ℕ → Answer
load_answer count found types n k =
    answer_of Admitted
    (ask (in_range n max_number) BadNumber
    ∷ ask (is_none found) WrongActivity
    ∷ ask (in_range k types) UnknownType
    ∷ ask (ltb count max_jobs) Full
    ∷ [])

-- questions 13, 14 and 17 of an event whose job must be active, in a plan with so many stages of each type; where they are met, what was found
unfoldable pub active_answer : List ℕ → Option Found → ℕ → StageAsked → Result Found Answer
active_answer lengths None n wanted = Err (cond (in_range n max_number) WrongActivity BadNumber)
active_answer lengths (Some f) n wanted =
    unless_refused
    (answer_of Admitted
    (ask (in_range n max_number) BadNumber ∷ ask (stage_meets wanted f.job.stage (at lengths f.job.kind)) WrongStage ∷ []))
    f

-- a job list with one job more, with another job at a position, and without the job at a position; where there is no room
-- or no such job it is handed back as it is
unfoldable pub with_job : JobList → Job → JobList
with_job t j = cond (ltb t.count max_jobs) (record { count = t.count + 1; jobs = set t.jobs t.count j }) t

unfoldable pub with_replaced : JobList → ℕ → Job → JobList
with_replaced t i j = record { count = t.count; jobs = set t.jobs i j }

unfoldable pub without_job : JobList → ℕ → JobList
without_job t i =
    cond (ltb i t.count && leb t.count max_jobs)
    (record { count = t.count - 1; jobs = take i t.jobs ++ drop (i + 1) t.jobs ++ no_job ∷ [] })
    t

-- the part of agreement that needs no sums, in a plan with so many types and so many stages of each
unfoldable pub well_formed : ℕ → List ℕ → JobList → Bool
well_formed types lengths t =
    leb t.count max_jobs
    && each is_no_job (drop t.count t.jobs)
    && (each (fits types lengths) (jobs_of t) && distinct (numbers (jobs_of t)))

-- what the first two questions hand on
unfoldable pub agreed : Plan → JobList → Result Agreed Answer
agreed p t = unless_refused (agreement p t) (record { sums = sums_of p (jobs_of t); ceilings = ceilings_of p })

-- the position of the earliest job whose move is admitted
abbrev pub movable : Plan → JobList → Job → Bool
movable p t j = is_admitted (answer p t (move_of p j))

abbrev pub earliest_position : Plan → JobList → Option ℕ
earliest_position p t = position_from (movable p t) 0 (jobs_of t)

-- the list after the move of the job at this position, where the move is admitted
abbrev pub moved_at : Plan → JobList → ℕ → JobList
moved_at p t i = list_of (jobs_after p (jobs_of t) (move_of p (get_or t.jobs i no_job)))
