use Rattle.std.proofs.Common.{ℕ, ◌≡◌, List, [], length-append, sym, ap, ◌∙◌, arith}
use mathlib.Core.Logic.{⊎_elim}
use Rattle.model.specs.declared.Plan.{Plan}
use Rattle.plan_bytes.specs.Over.{plan_over}
use Rattle.admission.specs.declared.Table.{Table}
use Rattle.events.specs.declared.Event.{Event}
use Rattle.table_runs.specs.Run.{ran, events_of}
use Rattle.table_runs.specs.declared.Ran.{Ran}
use Rattle.table_runs.proofs.EventByEvent.{after_events, after_nothing, admitted_one, run_step, letters_end, jobs_end, kinds_end}
use Rattle.table_runs.proofs.run.Goals as goal

-- a run that stops here has admitted what is admitted
stops : (p : Plan) (t : Table) (admitted : ℕ) (left : List Event) (whole : Ran) → whole ≡ after_events admitted (ran p t left) → left ≡ []
    → record { table = t; admitted = admitted } ≡ whole
stops p t admitted left whole rest h = sym (rest ∙ ap (λ es. after_events admitted (ran p t es)) h ∙ after_nothing admitted p t)

pub loop-letter-preserved : goal.loop-letter-preserved
loop-letter-preserved c =
    let p = plan_over c.args.plan.frame.now c.args.plan.stages.now in
    let l = c.loop-letter in
    let event = c.in-Some in
    let fronts = event.ensures.steps in
    let left = c.next.new.self in
    let next = c.step-next in
    record {
      few =
          omega (arith, length-append {A = _} l.yielded, ap (λ (r : Ran). r.admitted) next.ensures, admitted_one p l.t event.letter.now event.job.now event.kind.now);
      rest =
          l.invariant.rest
          ∙ run_step event.letter.now event.job.now event.kind.now left.a.a.rest.now left.a.b.rest.now left.b.rest.now _ _ _ fronts.0.0 fronts.0.1 fronts.1 p l.t
          l.admitted next.result next.ensures;
    }

pub returns : goal.returns
returns c =
    let p = plan_over c.args.plan.frame.now c.args.plan.stages.now in
    let l = c.loop-letter in
    let left = l.letter-iterator in
    let letters = left.a.a.rest.now in
    let jobs = left.a.b.rest.now in
    let kinds = left.b.rest.now in
    stops p l.t l.admitted (events_of letters jobs kinds) _ l.invariant.rest
    (⊎_elim
    (λ one. ⊎_elim (λ ended. letters_end letters jobs kinds ended.1.0) (λ ended. jobs_end letters jobs kinds ended.1.0) one.1)
    (λ ended. kinds_end letters jobs kinds ended.1.0)
    c.in-None.ensures.steps)
