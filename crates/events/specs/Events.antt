-- The events: what the model allows of them, and what is answered, question by question in document 01's order.
use Rattle.std.specs.Prelude.{ℕ, ◌<◌, Bool, not, cond, List, [], ◌∷◌, ◌++◌, ◌≢◌, ◌↔◌, ◌≡◌, length, ltb, eqb}
use Rattle.model.specs.Limits.{max_number, max_jobs}
use Rattle.model.specs.Numbers.{InRange, in_range}
use Rattle.model.specs.Questions.{Question, Condition, ask, asks, answer_of, FirstFailure}
use Rattle.model.specs.Jobs.{KeepsCapacities, KeepsRows, Exceeded, Broken, exceeded, broken, Active, is_active, job_of}
use Rattle.model.specs.Jobs.{HasNext, IsLast, has_next, is_last, loaded_job, advanced_at, removed_at, loaded, advanced, removed}
use Rattle.model.specs.Soundness.{Sound, sound}
use Rattle.model.specs.declared.Plan.{Plan}
use Rattle.model.specs.declared.Job.{Job}
use Rattle.events.specs.JobList.{jobs_of, list_of, Agrees, agrees}
use Rattle.events.specs.declared.JobList.{JobList}
use Rattle.events.specs.declared.Event.{Event}
use Rattle.events.specs.declared.Event.TheVariants.{Load, Advance, Unload, Pull}
use Rattle.events.specs.declared.Answer.{Answer}
use Rattle.events.specs.declared.Answer.TheVariants.{Admitted, UnsoundPlan, Disagreement, BadNumber, WrongActivity}
use Rattle.events.specs.declared.Answer.TheVariants.{UnknownType, Full, WrongStage, OverCapacity, RowBroken}
use Rattle.events.specs.declared.ListOutcome.{ListOutcome}

-- a move is an advance or an unload, one stage of a route done; a pull, which may leave several undone, is no move
abbrev pub IsMove : Event → Type 0
IsMove (Load n t) = ⊥
IsMove (Advance n) = Unit {0}
IsMove (Unload n) = Unit {0}
IsMove (Pull n) = ⊥

-- what the model names: the jobs that an event leads to. A load comes last, at stage 1; an advance swaps the demands of
-- two stages in one act (Condition 3 of source document 003), so only the jobs afterwards are judged; an unload closes the
-- gap, and so does a pull, of a job at whichever stage
abbrev pub LeadsTo : Plan → List Job → Event → List Job → Type 0
LeadsTo p js (Load n t) next = next ≡ js ++ loaded_job n t ∷ []
LeadsTo p js (Advance n) next = (a : Active n js) × HasNext p a.here.item × (next ≡ advanced_at p a.here)
LeadsTo p js (Unload n) next = (a : Active n js) × IsLast p a.here.item × (next ≡ removed_at a.here)
LeadsTo p js (Pull n) next = (a : Active n js) × (next ≡ removed_at a.here)

-- the model and the plan's inequalities allow the event: what it leads to keeps every capacity and every row (Equation 1)
pub record Allowed (p : Plan) (js : List Job) (e : Event) : Type 0 where
  pub next : List Job
  pub leads : LeadsTo p js e next
  pub capacities : KeepsCapacities p next
  pub rows : KeepsRows p next

-- the event names its job and type rightly and, to load, finds fewer than 64 active
abbrev pub WellNamed : Plan → List Job → Event → Type 0
WellNamed p js (Load n t) = InRange n max_number × (¬ Active n js) × InRange t p.types × (length js < max_jobs)
WellNamed p js (Advance n) = Active n js
WellNamed p js (Unload n) = Active n js
WellNamed p js (Pull n) = Active n js

-- P holds of the jobs that the event leads to; it is asked where there are such
abbrev pub Afterwards : Plan → List Job → Event → (List Job → Type 0) → Type 0
Afterwards p js e P = (next : List Job) → LeadsTo p js e next → P next

-- the paper's number and place of each answer
abbrev pub answer_numbers : Answer → ℕ × ℕ
answer_numbers Admitted = (0, 0)
answer_numbers UnsoundPlan = (11, 0)
answer_numbers Disagreement = (12, 0)
answer_numbers BadNumber = (13, 0)
answer_numbers WrongActivity = (14, 0)
answer_numbers UnknownType = (15, 0)
answer_numbers Full = (16, 0)
answer_numbers WrongStage = (17, 0)
answer_numbers (OverCapacity r) = (18, r)
answer_numbers (RowBroken w) = (19, w)

-- admitted (document 01's term): answered 0
abbrev pub is_admitted : Answer → Bool
is_admitted a = eqb (answer_numbers a).0 0

-- the answer has this number and this place
abbrev pub AnswerSays : ℕ → ℕ → Answer → Type 0
AnswerSays number place a = answer_numbers a ≡ (number, place)

-- the event questions as they are worded: what is asked, and what the refusal says
abbrev pub kept_conditions : Plan → List Job → Event → List (Condition Answer)
kept_conditions p js e =
    record {
      holds = Afterwards p js e (KeepsCapacities p);
      refusal = λ a. (r : ℕ) × AnswerSays 18 r a × (next : List Job) × LeadsTo p js e next × Exceeded p next r;
    }
    ∷ record {
      holds = Afterwards p js e (KeepsRows p);
      refusal = λ a. (w : ℕ) × AnswerSays 19 w a × (next : List Job) × LeadsTo p js e next × Broken p next w;
    }
    ∷ []

-- 13 and 14 of an event whose job must be active
abbrev pub name_conditions : List Job → ℕ → List (Condition Answer)
name_conditions js n = asks (InRange n max_number) (AnswerSays 13 0) ∷ asks (Active n js) (AnswerSays 14 0) ∷ []

abbrev pub own_conditions : Plan → List Job → Event → List (Condition Answer)
own_conditions p js (Load n t) =
    asks (InRange n max_number) (AnswerSays 13 0)
    ∷ asks (¬ Active n js) (AnswerSays 14 0)
    ∷ asks (InRange t p.types) (AnswerSays 15 0)
    ∷ asks (length js < max_jobs) (AnswerSays 16 0)
    ∷ kept_conditions p js (Load n t)
own_conditions p js (Advance n) =
    name_conditions js n ++ asks ((a : Active n js) → HasNext p a.here.item) (AnswerSays 17 0) ∷ kept_conditions p js (Advance n)
own_conditions p js (Unload n) =
    name_conditions js n ++ asks ((a : Active n js) → IsLast p a.here.item) (AnswerSays 17 0) ∷ kept_conditions p js (Unload n)
own_conditions p js (Pull n) = name_conditions js n ++ kept_conditions p js (Pull n)

-- asked before all else
abbrev pub first_conditions : Plan → JobList → List (Condition Answer)
first_conditions p t = asks (Sound p) (AnswerSays 11 0) ∷ asks (Agrees p t) (AnswerSays 12 0) ∷ []

abbrev pub event_conditions : Plan → JobList → Event → List (Condition Answer)
event_conditions p t e = first_conditions p t ++ own_conditions p (jobs_of t) e

-- the same, computed: the jobs after an event, and its questions
abbrev pub jobs_after : Plan → List Job → Event → List Job
jobs_after p js (Load n t) = loaded n t js
jobs_after p js (Advance n) = advanced p n js
jobs_after p js (Unload n) = removed n js
jobs_after p js (Pull n) = removed n js

abbrev pub limit_questions : ℕ → ℕ → List (Question Answer)
limit_questions resource row = ask (eqb resource 0) (OverCapacity resource) ∷ ask (eqb row 0) (RowBroken row) ∷ []

abbrev pub kept_questions : Plan → List Job → List (Question Answer)
kept_questions p next = limit_questions (exceeded p next) (broken p next)

-- the answer to the last two questions, from the lowest resource exceeded and the row exceeded by the most; 0 for none
unfoldable pub kept_answer : ℕ → ℕ → Answer
kept_answer resource row = answer_of Admitted (limit_questions resource row)

-- 13 and 14 as above, and 13 to 16 of a load into a plan with so many types
abbrev pub name_questions : List Job → ℕ → List (Question Answer)
name_questions js n = ask (in_range n max_number) BadNumber ∷ ask (is_active n js) WrongActivity ∷ []

abbrev pub load_questions : ℕ → List Job → ℕ → ℕ → List (Question Answer)
load_questions types js n t =
    ask (in_range n max_number) BadNumber
    ∷ ask (not (is_active n js)) WrongActivity
    ∷ ask (in_range t types) UnknownType
    ∷ ask (ltb (length js) max_jobs) Full
    ∷ []

abbrev pub own_questions : Plan → List Job → Event → List (Question Answer)
own_questions p js (Load n t) = load_questions p.types js n t ++ kept_questions p (jobs_after p js (Load n t))
own_questions p js (Advance n) =
    name_questions js n ++ ask (has_next p (job_of n js)) WrongStage ∷ kept_questions p (jobs_after p js (Advance n))
own_questions p js (Unload n) =
    name_questions js n ++ ask (is_last p (job_of n js)) WrongStage ∷ kept_questions p (jobs_after p js (Unload n))
own_questions p js (Pull n) = name_questions js n ++ kept_questions p (jobs_after p js (Pull n))

abbrev pub first_questions : Plan → JobList → List (Question Answer)
first_questions p t = ask (sound p) UnsoundPlan ∷ ask (agrees p t) Disagreement ∷ []

unfoldable pub agreement : Plan → JobList → Answer
agreement p t = answer_of Admitted (first_questions p t)

abbrev pub event_questions : Plan → JobList → Event → List (Question Answer)
event_questions p t e = first_questions p t ++ own_questions p (jobs_of t) e

unfoldable pub answer : Plan → JobList → Event → Answer
answer p t e = answer_of Admitted (event_questions p t e)

-- the table after an event: a refusal hands back the same
unfoldable pub list_after : Plan → JobList → Event → JobList
list_after p t e = cond (is_admitted (answer p t e)) (list_of (jobs_after p (jobs_of t) e)) t

abbrev pub list_outcome : Plan → JobList → Event → ListOutcome
list_outcome p t e = record { answer = answer p t e; list = list_after p t e }

-- the number may be used again (document 01): it is not active, and so a load of it is not answered 14, whatever else fails
pub record Reusable (p : Plan) (t : JobList) (n : ℕ) : Type 0 where
  pub inactive : ¬ Active n (jobs_of t)
  pub loadable : (k : ℕ) → (answer_numbers (answer p t (Load n k))).0 ≢ 14

-- demand 2 for one event: it is admitted exactly when it is allowed, the table is then the one that the model names and
-- agrees with the plan; otherwise the table is unchanged and the answer names the first question that failed
pub record Judged (p : Plan) (t : JobList) (e : Event) : Type 0 where
  pub exact : (answer p t e ≡ Admitted) ↔ Allowed p (jobs_of t) e
  pub list : (a : Allowed p (jobs_of t) e) → list_after p t e ≡ list_of a.next
  pub agrees : Agrees p (list_after p t e)
  pub refused : answer p t e ≢ Admitted → list_after p t e ≡ t
  pub first : FirstFailure (AnswerSays 0 0) (event_conditions p t e) (answer p t e)
