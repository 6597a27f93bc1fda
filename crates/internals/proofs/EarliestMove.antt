-- The move of the job at a position, as the drain tries it: in an agreeing table each number names its own job, so a job at its
-- last stage can go and another is judged by the sums; and the earliest that can go is the one that the definition finds.
use Prim.Native.Nat.{ℕ, zero, suc, ◌+◌, ◌≤◌, ◌<◌}
use native.Mathlib.Omega.{arith}
use Rattle.std.specs.Prelude.{Option, Some, None, is_some, unwrap_or}
use Rattle.std.specs.List.{position_from}
use mathlib.Core.Bool.{Bool, true, false, cond, false≢true}
use mathlib.Core.List.{List, [], ◌∷◌}
use mathlib.Core.Logic.{◌≢◌}
use mathlib.Core.Option.{none, some}
use mathlib.Core.Path.{◌≡◌, refl, sym, ap, subst, subst⁻¹, ◌∙◌}
use lib.ListN.{length, drop, get_or, drop_of_length-le}
use lib.Seq.{drop-cons, get_or-take}
use borrow.Author.Tests.{eq-eqb, ne_eqb, lt-ltb}
use Rattle.model.specs.Limits.{max_number}
use Rattle.model.specs.Numbers.{InRange, Each, Distinct}
use Rattle.model.specs.Plan.{length_of, stage_of}
use Rattle.model.specs.Jobs.{no_job, is_active, job_of, HasNext, advanced_job, numbers, Numbered, AtStage}
use Rattle.model.specs.Soundness.{Sound}
use Rattle.model.specs.declared.Plan.{Plan}
use Rattle.model.specs.declared.Stage.{Stage}
use Rattle.model.specs.declared.Job.{Job}
use Rattle.model.proofs.Decide.{passes, decides_range}
use Rattle.model.proofs.Lists.{each_get_d}
use Rattle.events.specs.JobList.{jobs_of, list_of, Agrees}
use Rattle.events.specs.Events.{is_admitted, answer, jobs_after}
use Rattle.events.specs.Drain.{move_of, earliest}
use Rattle.events.specs.declared.JobList.{JobList}
use Rattle.events.specs.declared.Event.{Event}
use Rattle.events.specs.declared.Event.TheVariants.{Advance, Unload}
use Rattle.events.specs.declared.Answer.TheVariants.{Admitted}
use Rattle.internals.specs.Internals.{sums_of, ceilings_of, kept_after, position_of, with_replaced, without_job, movable, earliest_position}
use Rattle.internals.proofs.Positions.{position_active, position_job}
use Rattle.internals.proofs.ListChanges.{count_is, advanced_list, removed_list}
use Rattle.internals.proofs.ActiveQuestions.{StandsActive, job_staged, advance_goes, unload_goes}

-- where numbers differ, the number of the job at a position is found at that position
each_other : (n : ℕ) (js : List Job) (i : ℕ) → Each (λ (m : ℕ). m ≢ n) (numbers js) → i < length js → (get_or js i no_job).number ≢ n
each_other n [] i h low = absurd (omega arith)
each_other n (j ∷ js) zero h low = h.0
each_other n (j ∷ js) (suc i) h low = each_other n js i h.1 (omega arith)

own_position : (js : List Job) (i : ℕ) → Distinct (numbers js) → i < length js → position_of (get_or js i no_job).number js ≡ i
own_position [] i h low = absurd (omega arith)
own_position (j ∷ js) zero h low = rw (eq-eqb j.number j.number refl) refl
own_position (j ∷ js) (suc i) h low =
    let other = each_other j.number js i h.0 (omega arith) in
    rw (ne_eqb j.number (get_or js i no_job).number (λ e. other (sym e))) (ap suc (own_position js i h.1 (omega arith)))

module _ (p : Plan) (t : JobList) (sound : Sound p) (agrees : Agrees p t) (i : ℕ) (low : i < t.count) where
  abbrev job : Job
  job = get_or t.jobs i no_job

  there : get_or (jobs_of t) i no_job ≡ job
  there = get_or-take t.count t.jobs i no_job low

  found : position_of job.number (jobs_of t) ≡ i
  found =
      ap (λ (j : Job). position_of j.number (jobs_of t)) (sym there)
      ∙ own_position (jobs_of t) i agrees.jobs.distinct (omega (arith, count_is p t agrees))

  named : job_of job.number (jobs_of t) ≡ job
  named = position_job job.number (jobs_of t) ∙ ap (λ m. get_or (jobs_of t) m no_job) found ∙ there

  numbered : InRange job.number max_number
  numbered =
      each_get_d Numbered t.jobs t.count i no_job agrees.jobs.numbered low (omega (arith, agrees.slots, agrees.few))

  active : is_active job.number (jobs_of t) ≡ true
  active =
      position_active job.number (jobs_of t)
      ∙ lt-ltb (position_of job.number (jobs_of t)) (length (jobs_of t)) (omega (arith, found, count_is p t agrees))

  stands : StandsActive p t job.number
  stands =
      record {
        sound = sound;
        agrees = agrees;
        met = rw (passes (decides_range job.number max_number) numbered, active) refl;
      }

  pub job_there_staged : AtStage p job
  job_there_staged = subst (AtStage p) named (job_staged stands)

  -- at its last stage
  module _ (last : length_of p job.kind ≡ job.stage) where
    unload : move_of p job ≡ Unload job.number
    unload = rw (eq-eqb job.stage (length_of p job.kind) (sym last)) refl

    pub last_moves : answer p t (move_of p job) ≡ Admitted
    last_moves =
        ap (answer p t) unload ∙ unload_goes stands (subst⁻¹ (λ (j : Job). length_of p j.kind ≡ j.stage) named last)

    pub last_leads : without_job t i ≡ list_of (jobs_after p (jobs_of t) (move_of p job))
    last_leads =
        ap (without_job t) (sym found)
        ∙ removed_list p t agrees job.number active
        ∙ ap (λ (e : Event). list_of (jobs_after p (jobs_of t) e)) (sym unload)

  -- at another
  module _ (other : length_of p job.kind ≢ job.stage) where
    advance : move_of p job ≡ Advance job.number
    advance = rw (ne_eqb job.stage (length_of p job.kind) (λ e. other (sym e))) refl

    pub has_next : HasNext p job
    has_next = omega (arith, other, job_there_staged.1)

    pub next_moves : (old new : Stage) → old ≡ stage_of p job.kind job.stage → new ≡ stage_of p job.kind (job.stage + 1)
        → answer p t (move_of p job) ≡ kept_after (sums_of p (jobs_of t)) old new (ceilings_of p)
    next_moves old new left entered =
        let left' = left ∙ ap (λ (j : Job). stage_of p j.kind j.stage) (sym named) in
        let entered' = entered ∙ ap (λ (j : Job). stage_of p j.kind (j.stage + 1)) (sym named) in
        ap (answer p t) advance ∙ advance_goes stands (subst⁻¹ (HasNext p) named has_next) old new left' entered'

    pub next_leads : with_replaced t i (advanced_job p job) ≡ list_of (jobs_after p (jobs_of t) (move_of p job))
    next_leads =
        ap (λ m. with_replaced t m (advanced_job p job)) (sym found)
        ∙ ap (λ (j : Job). with_replaced t (position_of job.number (jobs_of t)) (advanced_job p j)) (sym named)
        ∙ advanced_list p t agrees job.number active
        ∙ ap (λ (e : Event). list_of (jobs_after p (jobs_of t) e)) (sym advance)

  -- the search goes on from this position or stops at it
  pub movable_from : position_from (movable p t) i (drop i (jobs_of t)) ≡ cond (movable p t job) (Some i) (position_from (movable p t) (i + 1) (drop (i + 1) (jobs_of t)))
  movable_from =
      let js = jobs_of t in
      let next : suc i ≡ i + 1 = omega arith in
      rw (drop-cons js i no_job (omega (arith, count_is p t agrees)))
      (ap (λ (j : Job). cond (movable p t j) (Some i) (position_from (movable p t) (i + 1) (drop (suc i) js))) there
      ∙ ap (λ m. cond (movable p t job) (Some i) (position_from (movable p t) (i + 1) (drop m js))) next)

pub movable_none : (p : Plan) (t : JobList) (i : ℕ) → length (jobs_of t) ≤ i → position_from (movable p t) i (drop i (jobs_of t)) ≡ None
movable_none p t i h = rw (drop_of_length-le (jobs_of t) {i = i} h) refl

-- the earliest admitted move is that of the first job that can go
module _ (p : Plan) (t : JobList) where
  abbrev move_at : List Job → ℕ → Event
  move_at js i = move_of p (get_or js i no_job)

  -- the job at this position among these moves, and none before it
  pub record FirstMoves (js : List Job) (i : ℕ) : Type 0 where
    pub below : i < length js
    pub moves : is_admitted (answer p t (move_at js i)) ≡ true
    pub earliest : earliest p t js ≡ some (move_at js i)

  pub earliest_none : (js : List Job) (i : ℕ) → position_from (movable p t) i js ≡ None → earliest p t js ≡ none
  earliest_none [] i h = refl
  earliest_none (j ∷ js) i h = go (movable p t j) (earliest_none js (i + 1)) h
    where
      go : (b : Bool) → (position_from (movable p t) (i + 1) js ≡ None → earliest p t js ≡ none)
          → cond b (Some i) (position_from (movable p t) (i + 1) js) ≡ None → cond b (some (move_of p j)) (earliest p t js) ≡ none
      go true later k = absurd (false≢true (sym (ap is_some k)))
      go false later k = later k

  -- a search that starts with the number i
  first_from : (js : List Job) (i k : ℕ) → position_from (movable p t) i js ≡ Some k → (d : ℕ) × (k ≡ i + d) × FirstMoves js d
  first_from [] i k h = absurd (false≢true (ap is_some h))
  first_from (j ∷ js) i k h = go (movable p t j) refl (first_from js (i + 1) k) h
    where
      go : (b : Bool) → movable p t j ≡ b
          → (position_from (movable p t) (i + 1) js ≡ Some k → (d : ℕ) × (k ≡ i + 1 + d) × FirstMoves js d)
          → cond b (Some i) (position_from (movable p t) (i + 1) js) ≡ Some k → (d : ℕ) × (k ≡ i + d) × FirstMoves (j ∷ js) d
      go true e later same =
          let here : i ≡ k = ap (λ (o : Option ℕ). unwrap_or o 0) same in
          (0, omega (arith, here), record { below = omega arith; moves = e; earliest = rw e refl })
      go false e later same =
          let first = later same in
          (suc first.0, omega (arith, first.1), record { below = omega (arith, first.2.below); moves = first.2.moves; earliest = rw e first.2.earliest })

  pub first_moves : (i : ℕ) → earliest_position p t ≡ Some i → FirstMoves (jobs_of t) i
  first_moves i h = let first = first_from (jobs_of t) 0 i h in subst⁻¹ (FirstMoves (jobs_of t)) (omega (arith, first.1)) first.2
