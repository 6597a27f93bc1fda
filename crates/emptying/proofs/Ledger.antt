-- The ledger holds the jobs of the table: an admitted event makes the same change to its jobs, and what it takes and gives
-- back is the change in what the present stages demand.
use Prim.Native.Nat.{ℕ, ◌+◌}
use native.Mathlib.Omega.{arith}
use mathlib.Core.Bool.{false}
use mathlib.Core.List.{List}
use mathlib.Core.Logic.{⊎_elim}
use mathlib.Core.Path.{◌≡◌, refl, sym, ap, subst, ◌∙◌}
use Rattle.model.specs.Questions.{AllHold}
use Rattle.model.specs.Plan.{demand_of}
use Rattle.model.specs.Jobs.{units_held, HasNext, advanced_at, removed, Active, job_of, loaded_job, advanced_job, AtStage, Agreeing}
use Rattle.model.specs.Soundness.{Sound}
use Rattle.model.specs.declared.Plan.{Plan}
use Rattle.model.specs.declared.Job.{Job}
use Rattle.model.proofs.Decide.{passes}
use Rattle.model.proofs.Sums.{over_stages_added, over_stages_removed, over_stages_moved}
use Rattle.model.proofs.Jobs.{decides_active, FoundJob}
use Rattle.events.specs.JobList.{jobs_of, list_of, Agrees}
use Rattle.events.specs.Events.{jobs_after, own_conditions, answer, is_admitted, list_after}
use Rattle.emptying.specs.Ledger.{Ledger, demand_at, takes, gives, struck, posted, entered}
use Rattle.emptying.specs.Run.{State}
use Rattle.events.specs.declared.Event.{Event}
use Rattle.events.specs.declared.Event.TheVariants.{Load, Advance, Unload, Pull}
use Rattle.events.specs.declared.Answer.TheVariants.{Admitted}
use Rattle.events.proofs.JobLists.{jobs_of_list}
use Rattle.events.proofs.Answers.{names, staged_job, admitted_or_not, admitted_holds, list_admitted, list_refused, agrees_after}

-- units taken are units given back plus what the present stages demand
abbrev pub Balanced : Plan → Ledger → Type 0
Balanced p l = (r : ℕ) → l.taken r ≡ l.given r + units_held p r l.jobs

-- per resource an advance takes what the new stage demands above the old and gives back what the old demands above the new
pub advance_units : (p : Plan) {n : ℕ} {js : List Job} (a : Active n js) → AtStage p a.here.item → HasNext p a.here.item
    → (r : ℕ) → units_held p r (advanced_at p a.here) + gives p a.here.item r ≡ units_held p r js + takes p a.here.item r
advance_units p a here next r =
    let next-job = advanced_job p a.here.item in
    let there : AtStage p next-job = (here.0, omega (arith, next)) in
    let moved = over_stages_moved p (demand_of p r) a.here.before a.here.after a.here.item next-job here there in
    omega (arith, ap (units_held p r) a.here.whole, moved)

module _ (p : Plan) (sound : Sound p) (l : Ledger) (agreeing : Agreeing p l.jobs) (balanced : Balanced p l) where
  -- what is posted of an event whose questions are met
  record Posted (e : Event) (new : Ledger) : Type 0 where
    jobs : new.jobs ≡ jobs_after p l.jobs e
    balance : Balanced p new

  -- an event that strikes an active job, whatever its stage
  job_struck : (e : Event) (n : ℕ) → Active n l.jobs → removed n l.jobs ≡ jobs_after p l.jobs e → Posted e (struck p l n)
  job_struck e n a leads = rw (passes (decides_active n l.jobs) a) (record { jobs = leads; balance = balance })
    where
      found : FoundJob p n l.jobs a
      found = names p sound l.jobs agreeing n a

      balance : (r : ℕ) → l.taken r ≡ l.given r + demand_at p (job_of n l.jobs) r + units_held p r (removed n l.jobs)
      balance r =
          let here = staged_job p sound l.jobs agreeing n a in
          let left = over_stages_removed p (demand_of p r) a.here.before a.here.after a.here.item here in
          rw (found.removal, found.job) (omega (arith, balanced r, ap (units_held p r) a.here.whole, left))

  event_written : (e : Event) → AllHold (own_conditions p l.jobs e) → Posted e (posted p l e)
  event_written (Load n t) h =
      let stage = sound.lengths t h.1.1.0 in
      record {
        jobs = refl;
        balance = λ r. omega (arith, balanced r, over_stages_added p (demand_of p r) l.jobs (loaded_job n t) (h.1.1.0, omega arith));
      }
  event_written (Advance n) h = rw (passes (decides_active n l.jobs) a) (record { jobs = refl; balance = balance })
    where
      a : Active n l.jobs
      a = h.1.0

      found : FoundJob p n l.jobs a
      found = names p sound l.jobs agreeing n a

      balance : (r : ℕ)
          → let job = job_of n l.jobs in l.taken r + takes p job r ≡ l.given r + gives p job r + units_held p r (jobs_after p l.jobs (Advance n))
      balance r =
          rw (found.advance, found.job)
          (omega (arith, balanced r, advance_units p a (staged_job p sound l.jobs agreeing n a) (h.1.1.0 a) r))
  event_written (Unload n) h = job_struck (Unload n) n h.1.0 refl
  event_written (Pull n) h = job_struck (Pull n) n h.1.0 refl

-- a table and a ledger that hold the same jobs, balanced
pub record Consistent (p : Plan) (s : State) : Type 0 where
  pub same : s.list ≡ list_of s.ledger.jobs
  pub agrees : Agrees p s.list
  pub balance : Balanced p s.ledger

pub jobs_of_ledger : (p : Plan) (s : State) → Consistent p s → jobs_of s.list ≡ s.ledger.jobs
jobs_of_ledger p s h = ap jobs_of h.same ∙ jobs_of_list s.ledger.jobs

-- the state after one event
abbrev pub state_after : Plan → State → Event → State
state_after p s e = record { list = list_after p s.list e; ledger = entered p s.ledger e (answer p s.list e) }

pub stays_consistent : (p : Plan) → Sound p → (s : State) (e : Event) → Consistent p s → Consistent p (state_after p s e)
unfolding entered
stays_consistent p sound s e h = ⊎_elim yes not (admitted_or_not (answer p s.list e))
  where
    same_jobs : jobs_of s.list ≡ s.ledger.jobs
    same_jobs = jobs_of_ledger p s h

    agrees : Agrees p (list_after p s.list e)
    agrees = agrees_after p s.list e sound h.agrees

    yes : answer p s.list e ≡ Admitted → Consistent p (state_after p s e)
    yes a =
        let own = subst (λ (js : List Job). AllHold (own_conditions p js e)) same_jobs (admitted_holds p s.list e a).1.1 in
        let w = event_written p sound s.ledger (subst (Agreeing p) same_jobs h.agrees.jobs) h.balance e own in
        rw (ap is_admitted a)
        (record {
          same = list_admitted p s.list e a ∙ ap list_of (ap (λ (js : List Job). jobs_after p js e) same_jobs ∙ sym w.jobs);
          agrees = agrees;
          balance = w.balance;
        })

    not : is_admitted (answer p s.list e) ≡ false → Consistent p (state_after p s e)
    not n = rw n (record { same = list_refused p s.list e n ∙ h.same; agrees = agrees; balance = h.balance })
