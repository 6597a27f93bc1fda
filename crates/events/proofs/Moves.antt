-- An admitted move is one stage fewer before the jobs, and under the upstream rule some job's move is admitted while a job
-- remains: the model's list has such a move, and the table's answer follows the model.
use Prim.Native.Nat.{◌+◌, ◌<◌}
use native.Mathlib.Omega.{arith}
use mathlib.Core.Bool.{Bool, true, false, cond}
use mathlib.Core.List.{List, []}
use mathlib.Core.Logic.{◌≢◌, ◌⊎◌, inl, inr}
use mathlib.Core.Path.{◌≡◌, refl, ap, subst, ◌∙◌}
use borrow.Author.Tests.{eq-eqb, ne_eqb}
use Rattle.model.specs.Numbers.{Each}
use Rattle.model.specs.Plan.{length_of}
use Rattle.model.specs.Jobs.{Active, advanced_job, is_last, advanced_at, AtStage}
use Rattle.model.specs.Upstream.{UpstreamRule}
use Rattle.model.specs.declared.Plan.{Plan}
use Rattle.model.specs.declared.Job.{Job}
use Rattle.model.proofs.Decide.{decided, decides_eq}
use Rattle.model.proofs.Lists.{each_at}
use Rattle.model.proofs.Sums.{over_jobs_moved, over_jobs_removed}
use Rattle.model.proofs.Progress.{FreeJob, progress}
use Rattle.events.specs.JobList.{jobs_of, Agrees}
use Rattle.events.specs.Events.{IsMove, LeadsTo, jobs_after, answer, list_after}
use Rattle.events.specs.Drain.{stages_left, stages_before, move_of, Movable}
use Rattle.events.specs.declared.JobList.{JobList}
use Rattle.events.specs.declared.Event.{Event}
use Rattle.events.specs.declared.Event.TheVariants.{Load, Advance, Unload, Pull}
use Rattle.events.specs.declared.Answer.TheVariants.{Admitted}
use Rattle.events.proofs.JobLists.{jobs_of_list}
use Rattle.events.proofs.Answers.{own_leads, admitted_holds, list_admitted, judged, unload_admitted}

pub jobs_admitted : (p : Plan) (t : JobList) (e : Event) → answer p t e ≡ Admitted → jobs_of (list_after p t e) ≡ jobs_after p (jobs_of t) e
jobs_admitted p t e h = ap jobs_of (list_admitted p t e h) ∙ jobs_of_list (jobs_after p (jobs_of t) e)

-- one move, one stage
leads_count : (p : Plan) (js : List Job) (e : Event) → IsMove e → (next : List Job) → LeadsTo p js e next → 1 + stages_before p next ≡ stages_before p js
leads_count p js (Load n t) move next h = absurd move
leads_count p js (Advance n) move next h =
    let a = h.0 in
    let moved = over_jobs_moved (stages_left p) a.here.before a.here.after a.here.item (advanced_job p a.here.item) in
    omega (arith, ap (stages_before p) h.2, ap (stages_before p) a.here.whole, h.1, moved)
leads_count p js (Unload n) move next h =
    let a = h.0 in
    let removed = over_jobs_removed (stages_left p) a.here.before a.here.after a.here.item in
    omega (arith, ap (stages_before p) h.2, ap (stages_before p) a.here.whole, h.1, removed)
leads_count p js (Pull n) move next h = absurd move

pub move_count : (p : Plan) (t : JobList) (e : Event) → IsMove e → answer p t e ≡ Admitted
    → 1 + stages_before p (jobs_of (list_after p t e)) ≡ stages_before p (jobs_of t)
move_count p t e move h =
    let holds = admitted_holds p t e h in
    rw (jobs_admitted p t e h)
    (leads_count p (jobs_of t) e move (jobs_after p (jobs_of t) e) (own_leads p holds.0 (jobs_of t) holds.1.0.jobs e holds.1.1))

-- a job's move is a move
pub job_moves : (p : Plan) (j : Job) → IsMove (move_of p j)
job_moves p j = go (is_last p j)
  where
    go : (b : Bool) → IsMove (cond b (Unload j.number) (Advance j.number))
    go true = tt
    go false = tt

pub movable_job : (p : Plan) (t : JobList) → UpstreamRule p → Agrees p t → jobs_of t ≢ [] → Movable p t
movable_job p t rule agrees some =
    record { here = m.here; admitted = move (decided (decides_eq job.stage (length_of p job.kind))) }
  where
    m : FreeJob p rule (jobs_of t)
    m = progress p rule (jobs_of t) some agrees.jobs.staged agrees.jobs.rows

    job : Job
    job = m.here.item

    active : Active job.number (jobs_of t)
    active = record { here = m.here; numbered = refl }

    staged : AtStage p job
    staged =
        each_at (AtStage p) m.here.before job m.here.after (subst (Each (AtStage p)) m.here.whole agrees.jobs.staged)

    move : (job.stage ≡ length_of p job.kind) ⊎ (job.stage ≢ length_of p job.kind) → answer p t (move_of p job) ≡ Admitted
    move (inl last) =
        rw (eq-eqb job.stage (length_of p job.kind) last)
        (unload_admitted p t job.number rule.sound agrees active last)
    move (inr other) =
        let next : job.stage < length_of p job.kind = omega (arith, staged.1.1) in
        rw (ne_eqb job.stage (length_of p job.kind) other)
        ((judged p t (Advance job.number) rule.sound agrees active).exact.1
        (record { next = advanced_at p m.here; leads = (active, next, refl); capacities = m.capacities next; rows = m.rows next }))
