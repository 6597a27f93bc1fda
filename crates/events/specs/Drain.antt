-- The drain: the earliest loaded job whose move is admitted moves, until the cell is empty, the budget is spent or no
-- move is admitted.
use Rattle.std.specs.Prelude.{ℕ, zero, suc, ◌+◌, ◌-◌, ◌≤◌, ◌<◌, Bool, true, false, cond, List, [], ◌∷◌, ◌≡◌, ◌≢◌, ◌⊎◌}
use Rattle.std.proofs.Math.Option.{Option, none, some}
use Rattle.model.specs.Numbers.{Each, Split}
use Rattle.model.specs.Questions.{Condition, asks, FirstFailure}
use Rattle.model.specs.Plan.{length_of}
use Rattle.model.specs.Jobs.{over_jobs, is_last}
use Rattle.model.specs.Soundness.{Sound, sound}
use Rattle.model.specs.Upstream.{UpstreamRule}
use Rattle.model.specs.declared.Plan.{Plan}
use Rattle.model.specs.declared.Job.{Job}
use Rattle.events.specs.JobList.{jobs_of, empty_list, Agrees, agrees}
use Rattle.events.specs.Events.{answer, is_admitted, list_after}
use Rattle.events.specs.declared.JobList.{JobList}
use Rattle.events.specs.declared.Event.{Event}
use Rattle.events.specs.declared.Event.TheVariants.{Advance, Unload}
use Rattle.events.specs.declared.Answer.TheVariants.{Admitted}
use Rattle.events.specs.declared.End.{End}
use Rattle.events.specs.declared.End.TheVariants.{Emptied, UnsoundPlan, Disagreement, OutOfBudget, NoMove}
use Rattle.events.specs.declared.ListDrained.{ListDrained}

-- the stages still before a job of type t at stage k, the present one included, and those before all jobs
abbrev pub stages_left : Plan → ℕ → ℕ → ℕ
stages_left p t k = length_of p t - k + 1

abbrev pub stages_before : Plan → List Job → ℕ
stages_before p js = over_jobs (stages_left p) js

-- a job's move: an advance, or an unload at the last stage
abbrev pub move_of : Plan → Job → Event
move_of p j = cond (is_last p j) (Unload j.number) (Advance j.number)

-- the job's move is not admitted
abbrev pub Blocked : Plan → JobList → Job → Type 0
Blocked p t j = answer p t (move_of p j) ≢ Admitted

-- some job's move is admitted
pub record Movable (p : Plan) (t : JobList) : Type 0 where
  pub here : Split (jobs_of t)
  pub admitted : answer p t (move_of p here.item) ≡ Admitted

-- the move is that of the earliest of these jobs for which it is admitted
pub record Earliest (p : Plan) (t : JobList) (js : List Job) (e : Event) : Type 0 where
  pub here : Split js
  pub move : e ≡ move_of p here.item
  pub admitted : answer p t e ≡ Admitted
  pub earlier : Each (Blocked p t) here.before

-- that many moves lead from one table to another, each of the earliest loaded job for which it is admitted
pub data Moves (p : Plan) : JobList → ℕ → JobList → Type 0 where
  stay : {t : JobList} → Moves p t 0 t
  move : {t u : JobList} {n : ℕ} (e : Event) → Earliest p t (jobs_of t) e → Moves p (list_after p t e) n u → Moves p t (suc n) u

-- the paper's number of each end
abbrev pub end_number : End → ℕ
end_number Emptied = 0
end_number UnsoundPlan = 11
end_number Disagreement = 12
end_number OutOfBudget = 31
end_number NoMove = 32

-- the end has this number
abbrev pub EndSays : ℕ → End → Type 0
EndSays number end = end_number end ≡ number

-- the drain's questions as they are worded, asked where it stopped
abbrev pub drain_conditions : Plan → JobList → ℕ → ListDrained → List (Condition End)
drain_conditions p t budget d =
    asks (Sound p) (EndSays 11)
    ∷ asks (Agrees p t) (EndSays 12)
    ∷ asks (jobs_of d.list ≢ []) (λ (end : End). EndSays 0 end × (d.list ≡ empty_list))
    ∷ asks (d.moves < budget) (EndSays 31)
    ∷ asks (Movable p d.list) (EndSays 32)
    ∷ []

-- the Drain section of document 01: each move is the earliest admitted one; it stops at the first question that fails; a
-- refusal makes no move; the count is the fall in stages still before the jobs; and under the upstream rule a budget of as
-- many moves empties the cell
pub record DrainRule (p : Plan) (t : JobList) (budget : ℕ) (d : ListDrained) : Type 0 where
  pub moves : Moves p t d.moves d.list
  pub within : d.moves ≤ budget
  pub stops : FirstFailure (λ (end : End). ⊥) (drain_conditions p t budget d) d.end
  pub unmoved : (¬ Sound p) ⊎ (¬ Agrees p t) → (d.moves ≡ 0) × (d.list ≡ t)
  pub count : d.moves + stages_before p (jobs_of d.list) ≡ stages_before p (jobs_of t)
  pub empties : UpstreamRule p → Agrees p t → stages_before p (jobs_of t) ≤ budget → (d.end ≡ Emptied) × (d.list ≡ empty_list)

-- the same, computed: the earliest admitted move of these jobs
abbrev pub earliest : Plan → JobList → List Job → Option Event
earliest p t [] = none
earliest p t (j ∷ js) = let later = earliest p t js in cond (is_admitted (answer p t (move_of p j))) (some (move_of p j)) later

abbrev pub is_empty : List Job → Bool
is_empty [] = true
is_empty (j ∷ js) = false

abbrev pub stopped : End → JobList → ListDrained
stopped end t = record { end = end; moves = 0; list = t }

abbrev pub one_more : ListDrained → ListDrained
one_more d = record { end = d.end; moves = suc d.moves; list = d.list }

-- stopped where there is no move, and else what follows the move
abbrev pub go_on : JobList → (Event → ListDrained) → Option Event → ListDrained
go_on t further none = stopped NoMove t
go_on t further (some e) = one_more (further e)

-- is no job left; is there budget; is some job's move admitted
unfoldable pub drain_from : Plan → ℕ → JobList → ListDrained
drain_from p zero t = cond (is_empty (jobs_of t)) (stopped Emptied t) (stopped OutOfBudget t)
drain_from p (suc budget) t =
    cond (is_empty (jobs_of t)) (stopped Emptied t) (go_on t (λ (e : Event). drain_from p budget (list_after p t e)) (earliest p t (jobs_of t)))

unfoldable pub list_drain : Plan → JobList → ℕ → ListDrained
list_drain p t budget = cond (sound p) (cond (agrees p t) (drain_from p budget t) (stopped Disagreement t)) (stopped UnsoundPlan t)
