-- Demand 2, of the events' meaning: each computed question decides its worded one where those before it hold, and a number
-- that is active names one job, so the list after an event is the one that the model names.
use Prim.Native.Nat.{ℕ, suc, ◌+◌, ◌≤◌, ◌<◌}
use native.Mathlib.Omega.{arith}
use mathlib.Core.Bool.{Bool, false}
use mathlib.Core.List.{List, [], ◌∷◌, ◌++◌}
use mathlib.Core.Logic.{◌⊎◌, inl, inr, ⊎_elim}
use mathlib.Core.Path.{◌≡◌, refl, sym, ap, subst, subst⁻¹, ◌∙◌}
use lib.ListN.{length, length-append, length-take}
use Rattle.model.specs.Limits.{max_number, max_jobs}
use Rattle.model.specs.Numbers.{InRange, Each, Distinct}
use Rattle.model.specs.Questions.{Question, Condition, AllHold, FirstFailure}
use Rattle.model.specs.Plan.{length_of}
use Rattle.model.specs.Jobs.{KeepsCapacities, KeepsRows, Exceeded, Broken, exceeded, broken, Active, job_of, loaded_job, advanced_job}
use Rattle.model.specs.Jobs.{HasNext, IsLast, advanced_at, removed_at, advanced, removed, Numbered, AtStage, Agreeing, numbers}
use Rattle.model.specs.Soundness.{Sound}
use Rattle.model.specs.declared.Plan.{Plan}
use Rattle.model.specs.declared.Job.{Job}
use Rattle.model.proofs.Decide.{Decides, decides_iff, decides_not, decides_lt, decides_eq, decides_range}
use Rattle.model.proofs.Decide.{Answers, done, asked, first_failure, accepted, all_hold}
use Rattle.model.proofs.Lists.{append_each, each_at, each_removed, each_moved}
use Rattle.model.proofs.Jobs.{distinct_moved, distinct_removed, distinct_added, FoundJob, found}
use Rattle.model.proofs.Jobs.{decides_active, decides_capacities, decides_rows, lowest_exceeded, worst_broken}
use Rattle.model.proofs.Progress.{removed_keeps_capacities, removed_keeps_rows}
use Rattle.model.proofs.Soundness.{decides_sound}
use Rattle.events.specs.JobList.{jobs_of, list_of, Agrees}
use Rattle.events.specs.Events.{LeadsTo, Allowed, WellNamed, Afterwards, jobs_after, kept_conditions, name_conditions, own_conditions, first_conditions, event_conditions}
use Rattle.events.specs.Events.{kept_questions, name_questions, own_questions, first_questions, event_questions}
use Rattle.events.specs.Events.{agreement, answer, is_admitted, list_after, Judged, answer_numbers, AnswerSays}
use Rattle.events.specs.declared.JobList.{JobList}
use Rattle.events.specs.declared.Event.{Event}
use Rattle.events.specs.declared.Event.TheVariants.{Load, Advance, Unload, Pull}
use Rattle.events.specs.declared.Answer.{Answer}
use Rattle.events.specs.declared.Answer.TheVariants.{Admitted, UnsoundPlan, Disagreement, BadNumber, WrongActivity}
use Rattle.events.specs.declared.Answer.TheVariants.{UnknownType, Full, WrongStage, OverCapacity, RowBroken}
use Rattle.events.proofs.JobLists.{agreeing_list, decides_agrees}

-- the type that a load names is one of the plan's
abbrev pub TypeInPlan : Plan → Event → Type 0
TypeInPlan p (Load n t) = InRange t p.types
TypeInPlan p (Advance n) = Unit {0}
TypeInPlan p (Unload n) = Unit {0}
TypeInPlan p (Pull n) = Unit {0}

-- a list of jobs that agrees with a sound plan
module _ (p : Plan) (sound : Sound p) (js : List Job) (agreeing : Agreeing p js) where
  module _ (n : ℕ) (a : Active n js) where
    -- what holds of each job of the list holds of each of its parts
    parts : (P : Job → Type 0) → Each P js → Each P (a.here.before ++ a.here.item ∷ a.here.after)
    parts P h = subst (Each P) a.here.whole h

    -- and of the job named, and of the jobs after its advance and its removal
    at_job : (P : Job → Type 0) → Each P js → P a.here.item
    at_job P h = each_at P a.here.before a.here.item a.here.after (parts P h)

    each_advanced : (P : Job → Type 0) → P (advanced_job p a.here.item) → Each P js → Each P (advanced_at p a.here)
    each_advanced P moved h = each_moved P a.here.before a.here.item (advanced_job p a.here.item) a.here.after moved (parts P h)

    each_left : (P : Job → Type 0) → Each P js → Each P (removed_at a.here)
    each_left P h = each_removed P a.here.before a.here.item a.here.after (parts P h)

    length_whole : length js ≡ length a.here.before + suc (length a.here.after)
    length_whole = ap length a.here.whole ∙ length-append a.here.before (a.here.item ∷ a.here.after)

    pub staged_job : AtStage p a.here.item
    staged_job = at_job (AtStage p) agreeing.staged

    pub names : FoundJob p n js a
    names = found p a agreeing.distinct

    whole_distinct : Distinct (numbers (a.here.before ++ a.here.item ∷ a.here.after))
    whole_distinct = subst (λ (is : List Job). Distinct (numbers is)) a.here.whole agreeing.distinct

    -- the list without the job, for an unload and a pull alike: it has no more jobs than before, they agree with the plan as they
    -- did, and what was within a capacity or a bound stays within it
    left_length : length js ≤ max_jobs → length (removed n js) ≤ max_jobs
    left_length few =
        rw names.removal (omega (arith, length-append a.here.before a.here.after, length_whole))

    left_numbered : Each Numbered (removed n js)
    left_numbered = rw names.removal (each_left Numbered agreeing.numbered)

    left_distinct : Distinct (numbers (removed n js))
    left_distinct = rw names.removal (distinct_removed a.here.before a.here.after a.here.item whole_distinct)

    pub left_keeps : KeepsCapacities p (removed_at a.here) × KeepsRows p (removed_at a.here)
    left_keeps =
        let capacities = subst (KeepsCapacities p) a.here.whole agreeing.capacities in
        let rows = subst (KeepsRows p) a.here.whole agreeing.rows in (
          removed_keeps_capacities p a.here.before a.here.after a.here.item staged_job capacities,
          removed_keeps_rows p a.here.before a.here.after a.here.item staged_job rows,
        )

    -- a number names one job, so what is asked of the job found is asked of each that has the number
    decides_named : (P : Job → Type 0) {b : Bool} → Decides (P (job_of n js)) b → Decides ((c : Active n js) → P c.here.item) b
    decides_named P d = decides_iff (λ h c. subst P (found p c agreeing.distinct).job h) (λ h. subst⁻¹ P names.job (h a)) d

  -- the model names one list, the one that is computed
  pub leads_after : (e : Event) {next : List Job} → LeadsTo p js e next → next ≡ jobs_after p js e
  leads_after (Load n t) h = h
  leads_after (Advance n) h = h.2 ∙ sym (names n h.0).advance
  leads_after (Unload n) h = h.2 ∙ sym (names n h.0).removal
  leads_after (Pull n) h = h.1 ∙ sym (names n h.0).removal

  leads_advance : (n : ℕ) (a : Active n js) → HasNext p a.here.item → LeadsTo p js (Advance n) (advanced p n js)
  leads_advance n a h = (a, h, (names n a).advance)

  leads_unload : (n : ℕ) (a : Active n js) → IsLast p a.here.item → LeadsTo p js (Unload n) (removed n js)
  leads_unload n a h = (a, h, (names n a).removal)

  leads_pull : (n : ℕ) (a : Active n js) → LeadsTo p js (Pull n) (removed n js)
  leads_pull n a = (a, (names n a).removal)

  pub staged_after : (e : Event) (next : List Job) → TypeInPlan p e → LeadsTo p js e next → Each (AtStage p) next
  staged_after (Load n t) next type h =
      rw h (append_each (AtStage p) js (loaded_job n t ∷ []) agreeing.staged ((type, omega (arith, sound.lengths t type)), tt))
  staged_after (Advance n) next type h =
      let a = h.0 in
      rw h.2 (each_advanced n a (AtStage p) ((staged_job n a).0, omega (arith, h.1)) agreeing.staged)
  staged_after (Unload n) next type h =
      rw h.2 (each_left n h.0 (AtStage p) agreeing.staged)
  staged_after (Pull n) next type h =
      rw h.1 (each_left n h.0 (AtStage p) agreeing.staged)

  -- the last two questions: what holds of the list computed holds of the list named
  module _ (e : Event) (type : TypeInPlan p e) (leads : LeadsTo p js e (jobs_after p js e)) where
    afterwards : (P : List Job → Type 0) → P (jobs_after p js e) → Afterwards p js e P
    afterwards P h next k = subst⁻¹ P (leads_after e k) h

    decides_after : (P : List Job → Type 0) {b : Bool} → Decides (P (jobs_after p js e)) b → Decides (Afterwards p js e P) b
    decides_after P d = decides_iff (afterwards P) (λ h. h (jobs_after p js e) leads) d

    place_after : (says : ℕ → Type 0) (P : List Job → Type 0) (Place : List Job → ℕ → Type 0) (i : ℕ) → says i
        → ((¬ P (jobs_after p js e)) → Place (jobs_after p js e) i) → (¬ Afterwards p js e P)
        → (r : ℕ) × says r × (next : List Job) × LeadsTo p js e next × Place next r
    place_after says P Place i said found h = (i, said, jobs_after p js e, leads, found (λ k. h (afterwards P k)))

    kept_answers : Answers is_admitted (kept_questions p (jobs_after p js e)) (kept_conditions p js e)
    kept_answers =
        let l = jobs_after p js e in
        let staged = staged_after e l type leads in
        let r = exceeded p l in
        let w = broken p l in
        let over = place_after (λ i. AnswerSays 18 i (OverCapacity r)) (KeepsCapacities p) (Exceeded p) r refl (lowest_exceeded p l staged) in
        let row = place_after (λ i. AnswerSays 19 i (RowBroken w)) (KeepsRows p) (Broken p) w refl (worst_broken p l staged) in
        asked (decides_after (KeepsCapacities p) (decides_capacities p l staged)) over refl λ _.
        asked (decides_after (KeepsRows p) (decides_rows p l staged)) row refl λ _.
        done

  -- 13 and 14, and what is asked after them of an active number
  name_answers : (n : ℕ) {qs : List (Question Answer)} {cs : List (Condition Answer)} → (Active n js → Answers is_admitted qs cs)
      → Answers is_admitted (name_questions js n ++ qs) (name_conditions js n ++ cs)
  name_answers n rest =
      asked (decides_range n max_number) (λ _. refl) refl λ _.
      asked (decides_active n js) (λ _. refl) refl rest

  own_answers : (e : Event) → Answers is_admitted (own_questions p js e) (own_conditions p js e)
  own_answers (Load n t) =
      asked (decides_range n max_number) (λ _. refl) refl λ _.
      asked (decides_not (decides_active n js)) (λ _. refl) refl λ _.
      asked (decides_range t p.types) (λ _. refl) refl λ type.
      asked (decides_lt (length js) max_jobs) (λ _. refl) refl λ _.
      kept_answers (Load n t) type refl
  own_answers (Advance n) =
      name_answers n λ a.
      asked (decides_named n a (HasNext p) (decides_lt (job_of n js).stage (length_of p (job_of n js).kind))) (λ _. refl) refl λ h.
      kept_answers (Advance n) tt (leads_advance n a (h a))
  own_answers (Unload n) =
      name_answers n λ a.
      asked (decides_named n a (IsLast p) (decides_eq (job_of n js).stage (length_of p (job_of n js).kind))) (λ _. refl) refl λ h.
      kept_answers (Unload n) tt (leads_unload n a (h a))
  own_answers (Pull n) = name_answers n λ a. kept_answers (Pull n) tt (leads_pull n a)

  -- where its own questions are met an event leads to the jobs that the model names, which agree with the plan
  pub own_leads : (e : Event) → AllHold (own_conditions p js e) → LeadsTo p js e (jobs_after p js e)
  own_leads (Load n t) h = refl
  own_leads (Advance n) h = leads_advance n h.1.0 (h.1.1.0 h.1.0)
  own_leads (Unload n) h = leads_unload n h.1.0 (h.1.1.0 h.1.0)
  own_leads (Pull n) h = leads_pull n h.1.0

  own_type : (e : Event) → AllHold (own_conditions p js e) → TypeInPlan p e
  own_type (Load n t) h = h.1.1.0
  own_type (Advance n) h = tt
  own_type (Unload n) h = tt
  own_type (Pull n) h = tt

  own_kept : (e : Event) → AllHold (own_conditions p js e) → AllHold (kept_conditions p js e)
  own_kept (Load n t) h = h.1.1.1.1
  own_kept (Advance n) h = h.1.1.1
  own_kept (Unload n) h = h.1.1.1
  own_kept (Pull n) h = h.1.1

  own_length : (e : Event) → AllHold (own_conditions p js e) → length js ≤ max_jobs → length (jobs_after p js e) ≤ max_jobs
  own_length (Load n t) h few = omega (arith, length-append js (loaded_job n t ∷ []), h.1.1.1.0)
  own_length (Advance n) h few =
      let a = h.1.0 in
      rw (names n a).advance
      (omega (arith, length-append a.here.before (advanced_job p a.here.item ∷ a.here.after), length_whole n a))
  own_length (Unload n) h few = left_length n h.1.0 few
  own_length (Pull n) h few = left_length n h.1.0 few

  own_numbered : (e : Event) → AllHold (own_conditions p js e) → Each Numbered (jobs_after p js e)
  own_numbered (Load n t) h = append_each Numbered js (loaded_job n t ∷ []) agreeing.numbered (h.0, tt)
  own_numbered (Advance n) h =
      let a = h.1.0 in
      rw (names n a).advance (each_advanced n a Numbered (at_job n a Numbered agreeing.numbered) agreeing.numbered)
  own_numbered (Unload n) h = left_numbered n h.1.0
  own_numbered (Pull n) h = left_numbered n h.1.0

  own_distinct : (e : Event) → AllHold (own_conditions p js e) → Distinct (numbers (jobs_after p js e))
  own_distinct (Load n t) h = distinct_added js (loaded_job n t) h.1.0 agreeing.distinct
  own_distinct (Advance n) h =
      let a = h.1.0 in
      rw (names n a).advance (distinct_moved a.here.before a.here.after a.here.item (advanced_job p a.here.item) refl (whole_distinct n a))
  own_distinct (Unload n) h = left_distinct n h.1.0
  own_distinct (Pull n) h = left_distinct n h.1.0

  own_agreeing : (e : Event) → AllHold (own_conditions p js e) → Agreeing p (jobs_after p js e)
  own_agreeing e h =
      record {
        numbered = own_numbered e h;
        distinct = own_distinct e h;
        staged = staged_after e (jobs_after p js e) (own_type e h) (own_leads e h);
        capacities = (own_kept e h).0 (jobs_after p js e) (own_leads e h);
        rows = (own_kept e h).1.0 (jobs_after p js e) (own_leads e h);
      }

  own_allowed : (e : Event) → AllHold (own_conditions p js e) → Allowed p js e
  own_allowed e h =
      let agrees = own_agreeing e h in
      record { next = jobs_after p js e; leads = own_leads e h; capacities = agrees.capacities; rows = agrees.rows }

  -- an active number is in range
  active_range : (n : ℕ) → Active n js → InRange n max_number
  active_range n a =
      subst (λ (m : ℕ). InRange m max_number) a.numbered (at_job n a Numbered agreeing.numbered)

  -- a well named event that is allowed meets its own questions
  allowed_kept : (e : Event) → Allowed p js e → AllHold (kept_conditions p js e)
  allowed_kept e l = (λ next k. subst (KeepsCapacities p) (same k) l.capacities, (λ next k. subst (KeepsRows p) (same k) l.rows, tt))
    where
      same : {next : List Job} → LeadsTo p js e next → l.next ≡ next
      same k = leads_after e l.leads ∙ sym (leads_after e k)

  same_job : (n : ℕ) (a b : Active n js) → a.here.item ≡ b.here.item
  same_job n a b = sym (names n a).job ∙ (names n b).job

  allowed_own : (e : Event) → WellNamed p js e → Allowed p js e → AllHold (own_conditions p js e)
  allowed_own (Load n t) w l = (w.0, (w.1, (w.2, (w.3, allowed_kept (Load n t) l))))
  allowed_own (Advance n) a l =
      (active_range n a, (a, (λ b. subst (HasNext p) (same_job n l.leads.0 b) l.leads.1, allowed_kept (Advance n) l)))
  allowed_own (Unload n) a l =
      (active_range n a, (a, (λ b. subst (IsLast p) (same_job n l.leads.0 b) l.leads.1, allowed_kept (Unload n) l)))
  allowed_own (Pull n) a l = (active_range n a, (a, allowed_kept (Pull n) l))

  -- a job at its last stage can be unloaded, and one at any stage pulled
  unload_allowed : (n : ℕ) (a : Active n js) → IsLast p a.here.item → Allowed p js (Unload n)
  unload_allowed n a last =
      let kept = left_keeps n a in
      record { next = removed_at a.here; leads = (a, last, refl); capacities = kept.0; rows = kept.1 }

  pull_allowed : (n : ℕ) → Active n js → Allowed p js (Pull n)
  pull_allowed n a =
      let kept = left_keeps n a in
      record { next = removed_at a.here; leads = (a, refl); capacities = kept.0; rows = kept.1 }

pub event_answers : (p : Plan) (t : JobList) (e : Event) → Answers is_admitted (event_questions p t e) (event_conditions p t e)
event_answers p t e =
    asked (decides_sound p) (λ _. refl) refl λ sound.
    asked (decides_agrees p t) (λ _. refl) refl λ agrees.
    own_answers p sound (jobs_of t) agrees.jobs e

first_answers : (p : Plan) (t : JobList) → Answers is_admitted (first_questions p t) (first_conditions p t)
first_answers p t =
    asked (decides_sound p) (λ _. refl) refl λ _.
    asked (decides_agrees p t) (λ _. refl) refl λ _.
    done

-- agreement's own answer: 0, 11 or 12, whichever of the first two questions fails first
pub agreement_first_failure : (p : Plan) (t : JobList) → FirstFailure (AnswerSays 0 0) (first_conditions p t) (agreement p t)
unfolding agreement
agreement_first_failure p t = first_failure is_admitted Admitted (AnswerSays 0 0) refl (first_answers p t)

-- every answer, of any plan, table and event, names the first question that fails, with the place that its refusal words: of 18 the lowest
-- resource exceeded, of 19 the row exceeded by the most
pub answer_first_failure : (p : Plan) (t : JobList) (e : Event) → FirstFailure (AnswerSays 0 0) (event_conditions p t e) (answer p t e)
unfolding answer
answer_first_failure p t e = first_failure is_admitted Admitted (AnswerSays 0 0) refl (event_answers p t e)

-- an answer is the acceptance or not
pub admitted_or_not : (a : Answer) → (a ≡ Admitted) ⊎ (is_admitted a ≡ false)
admitted_or_not Admitted = inl refl
admitted_or_not UnsoundPlan = inr refl
admitted_or_not Disagreement = inr refl
admitted_or_not BadNumber = inr refl
admitted_or_not WrongActivity = inr refl
admitted_or_not UnknownType = inr refl
admitted_or_not Full = inr refl
admitted_or_not WrongStage = inr refl
admitted_or_not (OverCapacity r) = inr refl
admitted_or_not (RowBroken w) = inr refl

module _ (p : Plan) (t : JobList) (e : Event) where
  -- the conditions of an admitted event
  pub admitted_holds : answer p t e ≡ Admitted → AllHold (event_conditions p t e)
  unfolding answer
  admitted_holds h = all_hold is_admitted Admitted (event_answers p t e) (ap is_admitted h)

  pub holds_admitted : AllHold (event_conditions p t e) → answer p t e ≡ Admitted
  unfolding answer
  holds_admitted h = accepted is_admitted Admitted (event_answers p t e) h

  pub list_admitted : answer p t e ≡ Admitted → list_after p t e ≡ list_of (jobs_after p (jobs_of t) e)
  unfolding list_after
  list_admitted h = rw h

  pub list_refused : is_admitted (answer p t e) ≡ false → list_after p t e ≡ t
  unfolding list_after
  list_refused h = rw h

pub agrees_after : (p : Plan) (t : JobList) (e : Event) → Sound p → Agrees p t → Agrees p (list_after p t e)
agrees_after p t e sound agrees = ⊎_elim yes (λ h. rw (list_refused p t e h) agrees) (admitted_or_not (answer p t e))
  where
    few : length (jobs_of t) ≤ max_jobs
    few = omega (arith, length-take t.count t.jobs, agrees.few)

    yes : answer p t e ≡ Admitted → Agrees p (list_after p t e)
    yes h =
        let own = (admitted_holds p t e h).1.1 in
        let few-after = own_length p sound (jobs_of t) agrees.jobs e own few in
        let agreeing-after = own_agreeing p sound (jobs_of t) agrees.jobs e own in
        rw (list_admitted p t e h) (agreeing_list p (jobs_after p (jobs_of t) e) few-after agreeing-after)

-- demand 2: a well named event is judged as the model and the plan's inequalities do
pub judged : (p : Plan) (t : JobList) (e : Event) → Sound p → Agrees p t → WellNamed p (jobs_of t) e → Judged p t e
judged p t e sound agrees named =
    record {
      exact = (λ h. own_allowed p sound (jobs_of t) agrees.jobs e (admitted_holds p t e h).1.1, admits);
      list = λ a. list_admitted p t e (admits a) ∙ ap list_of (sym (leads_after p sound (jobs_of t) agrees.jobs e a.leads));
      agrees = agrees_after p t e sound agrees;
      refused = λ no. ⊎_elim (λ yes. absurd (no yes)) (list_refused p t e) (admitted_or_not (answer p t e));
      first = answer_first_failure p t e;
    }
  where
    admits : Allowed p (jobs_of t) e → answer p t e ≡ Admitted
    admits a = holds_admitted p t e (sound, (agrees, allowed_own p sound (jobs_of t) agrees.jobs e named a))

pub unload_admitted : (p : Plan) (t : JobList) (n : ℕ) → Sound p → Agrees p t → (a : Active n (jobs_of t)) → IsLast p a.here.item
    → answer p t (Unload n) ≡ Admitted
unload_admitted p t n sound agrees a last =
    (judged p t (Unload n) sound agrees a).exact.1 (unload_allowed p sound (jobs_of t) agrees.jobs n a last)

pub pull_admitted : (p : Plan) (t : JobList) (n : ℕ) → Sound p → Agrees p t → Active n (jobs_of t) → answer p t (Pull n) ≡ Admitted
pull_admitted p t n sound agrees a = (judged p t (Pull n) sound agrees a).exact.1 (pull_allowed p sound (jobs_of t) agrees.jobs n a)

-- one question more: the answer is below k where its refusal is, and that of the questions after it
below : (a : Answer) (k number : ℕ) {Q R : Type 0} → number < k → ((¬ Q) × AnswerSays number 0 a) ⊎ (Q × R)
    → (Q × R → (answer_numbers a).0 < k) → (answer_numbers a).0 < k
below a k number low (inl failed) later = rw failed.1 low
below a k number low (inr met) later = later met

-- 11 to 14 of an event whose job must be active, and R of the answer where they are met
module _ (p : Plan) (t : JobList) (n : ℕ) (a : Answer) (k : ℕ) where
  name_below : {R : Type 0} → 14 < k → FirstFailure (λ _. R) (first_conditions p t ++ name_conditions (jobs_of t) n) a
      → (Sound p → Agrees p t → Active n (jobs_of t) → R → (answer_numbers a).0 < k) → (answer_numbers a).0 < k
  name_below above says later =
      below a k 11 (omega arith) says λ sound.
      below a k 12 (omega arith) sound.1 λ agrees.
      below a k 13 (omega arith) agrees.1 λ range.
      below a k 14 (omega arith) range.1 λ active.
      later sound.0 agrees.0 active.0 active.1

-- an unload meets neither 18 nor 19
pub unload_below_18 : (p : Plan) (t : JobList) (n : ℕ) → (answer_numbers (answer p t (Unload n))).0 < 18
unload_below_18 p t n =
    let a = answer p t (Unload n) in
    name_below p t n a 18 (omega arith) (answer_first_failure p t (Unload n)) λ sound agrees active rest.
    below a 18 17 (omega arith) rest λ last.
    rw (unload_admitted p t n sound agrees active (last.0 active)) (omega arith)

-- nor does a pull, which is asked nothing after 14 that could fail
pub pull_below_15 : (p : Plan) (t : JobList) (n : ℕ) → (answer_numbers (answer p t (Pull n))).0 < 15
pull_below_15 p t n =
    name_below p t n (answer p t (Pull n)) 15 (omega arith) (answer_first_failure p t (Pull n)) λ sound agrees active rest.
    rw (pull_admitted p t n sound agrees active) (omega arith)
