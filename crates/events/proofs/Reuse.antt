-- A number may be used again after its unload, and after its pull: the numbers of an agreeing list differ, so without the job that is
-- removed none has it, and question 14 of a load is met.
use Prim.Native.Nat.{ℕ}
use native.Mathlib.Omega.{arith}
use mathlib.Core.Bool.{Bool, true, false, not, cond}
use mathlib.Core.List.{List, [], ◌∷◌}
use mathlib.Core.Logic.{◌≢◌, ◌⊎◌, inl, inr}
use mathlib.Core.Path.{◌≡◌, refl, ap, subst⁻¹, ◌∙◌}
use Rattle.model.specs.Numbers.{Each}
use Rattle.model.specs.Questions.{Question, answer_of}
use Rattle.model.specs.Jobs.{Active, removed}
use Rattle.model.specs.declared.Plan.{Plan}
use Rattle.model.specs.declared.Job.{Job}
use Rattle.model.proofs.Decide.{fails}
use Rattle.model.proofs.Jobs.{decides_active, removed_inactive}
use Rattle.events.specs.JobList.{jobs_of}
use Rattle.events.specs.Events.{answer_numbers, event_questions, jobs_after, answer, list_after, Reusable}
use Rattle.events.specs.declared.JobList.{JobList}
use Rattle.events.specs.declared.Event.{Event}
use Rattle.events.specs.declared.Event.TheVariants.{Load, Unload, Pull}
use Rattle.events.specs.declared.Answer.{Answer}
use Rattle.events.specs.declared.Answer.TheVariants.{Admitted}
use Rattle.events.proofs.JobLists.{jobs_of_list}
use Rattle.events.proofs.Answers.{admitted_holds, list_admitted}

-- questions that say something else than 14, or are met
abbrev Other14 : Question Answer → Type 0
Other14 q = ((answer_numbers q.refusal).0 ≢ 14) ⊎ (q.met ≡ true)

never_14 : (qs : List (Question Answer)) → Each Other14 qs → (answer_numbers (answer_of Admitted qs)).0 ≢ 14
never_14 [] h = λ e. omega arith
never_14 (q ∷ qs) (inl other, h) = go q.met (never_14 qs h)
  where
    go : (b : Bool) → (answer_numbers (answer_of Admitted qs)).0 ≢ 14 → (answer_numbers (cond b (answer_of Admitted qs) q.refusal)).0 ≢ 14
    go true later = later
    go false later = other
never_14 (q ∷ qs) (inr met, h) = rw met (never_14 qs h)

inactive_reusable : (p : Plan) (t : JobList) (n : ℕ) → (¬ Active n (jobs_of t)) → Reusable p t n
unfolding answer
inactive_reusable p t n none =
    let met = ap not (fails (decides_active n (jobs_of t)) none) in
    record {
      inactive = none;
      loadable = λ k.
          never_14 (event_questions p t (Load n k)) (
            inl (λ e. omega arith),
            (
              inl (λ e. omega arith),
              (
                inl (λ e. omega arith),
                (inr met, (inl (λ e. omega arith), (inl (λ e. omega arith), (inl (λ e. omega arith), (inl (λ e. omega arith), tt))))),
              ),
            ),
          );
    }

module _ (p : Plan) (t : JobList) (n : ℕ) where
  -- an event that leads to the jobs without that of the number
  removal_frees : (e : Event) → jobs_after p (jobs_of t) e ≡ removed n (jobs_of t) → answer p t e ≡ Admitted → Reusable p (list_after p t e) n
  removal_frees e removes h =
      let agrees = (admitted_holds p t e h).1.0 in
      let left = ap jobs_of (list_admitted p t e h) ∙ jobs_of_list (jobs_after p (jobs_of t) e) ∙ removes in
      inactive_reusable p (list_after p t e) n
      (subst⁻¹ (λ (js : List Job). ¬ Active n js) left (removed_inactive n (jobs_of t) agrees.jobs.distinct))

  pub unload_frees : answer p t (Unload n) ≡ Admitted → Reusable p (list_after p t (Unload n)) n
  unload_frees = removal_frees (Unload n) refl

  pub pull_frees : answer p t (Pull n) ≡ Admitted → Reusable p (list_after p t (Pull n)) n
  pull_frees = removal_frees (Pull n) refl
