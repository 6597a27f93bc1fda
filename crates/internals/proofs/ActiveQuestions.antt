-- A move or a pull of the job that a number names: the refusals up to question 14, and what is answered once the number is active. A
-- number names one job of an agreeing list, so the job found is the one that the model splits the list at.
use Prim.Native.Nat.{ℕ, ◌+◌}
use Rattle.std.specs.Prelude.{Option, Some, None, Result, Ok, Err}
use mathlib.Core.Bool.{Bool, true, false, cond, false≢true}
use mathlib.Core.List.{List, [], ◌∷◌, ◌++◌}
use mathlib.Core.Path.{◌≡◌, refl, sym, ap, subst, subst⁻¹, ◌∙◌}
use borrow.Author.Tests.{lt-ltb}
use Rattle.model.specs.Limits.{max_number}
use Rattle.model.specs.Numbers.{in_range}
use Rattle.model.specs.Questions.{Question, ask, answer_of}
use Rattle.model.specs.Plan.{length_of, stage_of}
use Rattle.model.specs.Jobs.{exceeded, broken, Active, is_active, job_of, HasNext, IsLast, has_next, advanced_at, advanced, AtStage}
use Rattle.model.specs.Soundness.{Sound}
use Rattle.model.specs.declared.Plan.{Plan}
use Rattle.model.specs.declared.Stage.{Stage}
use Rattle.model.specs.declared.Job.{Job}
use Rattle.model.proofs.Decide.{holds}
use Rattle.model.proofs.Jobs.{decides_active, FoundJob}
use Rattle.events.specs.JobList.{jobs_of, Agrees}
use Rattle.events.specs.Events.{is_admitted, jobs_after, name_questions, kept_questions, own_questions, kept_answer, agreement, answer}
use Rattle.events.specs.declared.JobList.{JobList}
use Rattle.events.specs.declared.Event.{Event}
use Rattle.events.specs.declared.Event.TheVariants.{Advance, Unload, Pull}
use Rattle.events.specs.declared.Answer.{Answer}
use Rattle.events.specs.declared.Answer.TheVariants.{Admitted, BadNumber, WrongActivity, WrongStage}
use Rattle.events.proofs.Answers.{staged_job, names, unload_admitted, pull_admitted}
use Rattle.internals.specs.Internals.{sums_of, ceilings_of, unless_refused, kept_after, found_in, stage_met, active_answer}
use Rattle.internals.specs.JobNumbers.{Judges}
use Rattle.internals.specs.declared.Found.{Found}
use Rattle.internals.specs.declared.StageAsked.{StageAsked}
use Rattle.internals.specs.declared.StageAsked.TheVariants.{Next, Last, Any}
use Rattle.internals.proofs.Positions.{standing}
use Rattle.internals.proofs.QuestionParts.{agreement_holds, agreement_met, met_agreement, first_met, Refusing, handed_on, refused_as, judged_error, entry_refused}
use Rattle.internals.proofs.QuestionParts.{name_holds, name_met}
use Rattle.internals.proofs.SumsAfter.{moved_exchanged, kept_exchanged}

-- questions 11 to 14 of a move or a pull are met
pub record StandsActive (p : Plan) (t : JobList) (n : ℕ) : Type 0 where
  pub sound : Sound p
  pub agrees : Agrees p t
  pub met : is_admitted (answer_of Admitted (name_questions (jobs_of t) n)) ≡ true

-- the event of the number that asks this of its stage
abbrev pub event_asking : StageAsked → ℕ → Event
event_asking Next n = Advance n
event_asking Last n = Unload n
event_asking Any n = Pull n

-- questions 13, 14 and 17, as the code asks them
module _ (p : Plan) (t : JobList) (n : ℕ) where
  abbrev met_by : StageAsked → Bool
  met_by w = stage_met p w (job_of n (jobs_of t))

  abbrev stage_by : StageAsked → List (Question Answer)
  stage_by Next = ask (met_by Next) WrongStage ∷ []
  stage_by Last = ask (met_by Last) WrongStage ∷ []
  stage_by Any = []

  abbrev own_by : StageAsked → List (Question Answer)
  own_by w = name_questions (jobs_of t) n ++ stage_by w

  abbrev rest_by : StageAsked → List (Question Answer)
  rest_by w = kept_questions p (jobs_after p (jobs_of t) (event_asking w n))

  whole : (w : StageAsked) → own_questions p (jobs_of t) (event_asking w n) ≡ own_by w ++ rest_by w
  whole Next = refl
  whole Last = refl
  whole Any = refl

  refuses : (w : StageAsked) → Refusing (own_by w)
  refuses Next = (refl, (refl, (refl, tt)))
  refuses Last = (refl, (refl, (refl, tt)))
  refuses Any = (refl, (refl, tt))

  -- where the stage is not asked it is met
  abbrev further_by : StageAsked → Bool → Answer
  further_by w b = answer_of Admitted (ask (in_range n max_number) BadNumber ∷ ask b WrongActivity ∷ ask (met_by w) WrongStage ∷ [])

  own_further : (w : StageAsked) → further_by w (is_active n (jobs_of t)) ≡ answer_of Admitted (own_by w)
  own_further Next = refl
  own_further Last = refl
  own_further Any = refl

module _ (p : Plan) (t : JobList) (n : ℕ) (wanted : StageAsked) where
  abbrev met : Bool
  met = met_by p t n wanted

  abbrev own : List (Question Answer)
  own = own_by p t n wanted

  abbrev rest : List (Question Answer)
  rest = rest_by p t n wanted

  own_met : is_admitted (answer_of Admitted own) ≡ true → (is_admitted (answer_of Admitted (name_questions (jobs_of t) n)) ≡ true) × (met ≡ true)
  own_met h = go (in_range n max_number) (is_active n (jobs_of t)) met (ap is_admitted (own_further p t n wanted) ∙ h)
    where
      go : (a b m : Bool) → is_admitted (cond a (cond b (cond m Admitted WrongStage) WrongActivity) BadNumber) ≡ true
          → (is_admitted (cond a (cond b Admitted WrongActivity) BadNumber) ≡ true) × (m ≡ true)
      go true true true e = (refl, refl)
      go true true false e = absurd (false≢true e)
      go true false m e = absurd (false≢true e)
      go false b m e = absurd (false≢true e)

  -- where they are met, what was found is handed on
  abbrev asked_of : Option Found → Result Found Answer
  asked_of found = active_answer p.lengths found n wanted

  asked : asked_of (found_in n (jobs_of t)) ≡ unless_refused (answer_of Admitted own) (standing n (jobs_of t))
  unfolding active_answer
  asked = go (is_active n (jobs_of t)) ∙ ap (λ (a : Answer). unless_refused a (standing n (jobs_of t))) (own_further p t n wanted)
    where
      none : (b : Bool) → ◌≡◌ {A = Result Found Answer} (Err (cond b WrongActivity BadNumber)) (unless_refused (cond b WrongActivity BadNumber) (standing n (jobs_of t)))
      none true = refl
      none false = refl

      go : (b : Bool) → asked_of (cond b (Some (standing n (jobs_of t))) None) ≡ unless_refused (further_by p t n wanted b) (standing n (jobs_of t))
      go true = refl
      go false = none (in_range n max_number)

  module _ (agreeing : is_admitted (agreement p t) ≡ true) where
    pub active_refused : {r : Answer} → asked_of (found_in n (jobs_of t)) ≡ Err r → Judges p t (event_asking wanted n) (Err r)
    active_refused h =
        let refused = refused_as _ _ (sym asked ∙ h) in
        let other = ap is_admitted (sym refused.1) ∙ refused.0 in
        judged_error p t (event_asking wanted n) _ other
        (entry_refused p t (event_asking wanted n) own rest (whole p t n wanted) (refuses p t n wanted) (agreement p t) _ refl (sym refused.1 ∙ rw agreeing refl) other)

    pub active_stands : {f : Found} → asked_of (found_in n (jobs_of t)) ≡ Ok f → StandsActive p t n × (met ≡ true) × (standing n (jobs_of t) ≡ f)
    active_stands h =
        let both = handed_on _ _ (sym asked ∙ h) in
        let plan = agreement_holds p t agreeing in
        let named = own_met both.0 in
        (record { sound = plan.0; agrees = plan.1; met = named.0 }, named.1, both.1)

module _ {p : Plan} {t : JobList} {n : ℕ} (s : StandsActive p t n) where
  pub active : is_active n (jobs_of t) ≡ true
  active = name_holds (jobs_of t) n s.met

  pub agreement_stands : agreement p t ≡ Admitted
  agreement_stands = met_agreement p t s.sound s.agrees

  here : Active n (jobs_of t)
  here = holds (decides_active n (jobs_of t)) active

  found : FoundJob p n (jobs_of t) here
  found = names p s.sound (jobs_of t) s.agrees.jobs n here

  abbrev pub job : Job
  job = job_of n (jobs_of t)

  pub job_staged : AtStage p job
  job_staged = subst⁻¹ (AtStage p) found.job (staged_job p s.sound (jobs_of t) s.agrees.jobs n here)

  goes_on : (e : Event) (rest : List (Question Answer)) → own_questions p (jobs_of t) e ≡ name_questions (jobs_of t) n ++ rest
      → answer p t e ≡ answer_of Admitted rest
  goes_on e rest whole =
      first_met p t e (agreement_met p t s.sound s.agrees) ∙ ap (answer_of Admitted) whole ∙ name_met (jobs_of t) n rest s.met

  -- 18 and 19 of an advance, by the sums with its old stage exchanged for the new
  pub advance_goes : HasNext p job
      → (old new : Stage) → old ≡ stage_of p job.kind job.stage → new ≡ stage_of p job.kind (job.stage + 1)
      → answer p t (Advance n) ≡ kept_after (sums_of p (jobs_of t)) old new (ceilings_of p)
  unfolding kept_answer
  advance_goes more old new left entered =
      let js = jobs_of t in
      let kept : List Job → Answer = λ next. kept_answer (exceeded p next) (broken p next) in
      let asked : answer p t (Advance n) ≡ kept (advanced p n js) =
      goes_on (Advance n) (ask (has_next p job) WrongStage ∷ kept_questions p (advanced p n js)) refl
      ∙ rw (lt-ltb job.stage (length_of p job.kind) more) refl
      in
      let left' = left ∙ ap (λ (j : Job). stage_of p j.kind j.stage) found.job in
      let entered' = entered ∙ ap (λ (j : Job). stage_of p j.kind (j.stage + 1)) found.job in
      asked
      ∙ ap kept found.advance
      ∙ sym (kept_exchanged p s.sound js (advanced_at p here.here) old new (moved_exchanged p js here.here old new left' entered'))

  pub unload_goes : length_of p job.kind ≡ job.stage → answer p t (Unload n) ≡ Admitted
  unload_goes h = unload_admitted p t n s.sound s.agrees here (subst (IsLast p) found.job (sym h))

  pub pull_goes : answer p t (Pull n) ≡ Admitted
  pull_goes = pull_admitted p t n s.sound s.agrees here
