use Rattle.std.proofs.Common.{◌<◌, get_or, sym, ap, ◌∙◌, arith}
use Rattle.model.specs.Limits.{max_jobs}
use Rattle.model.specs.Plan.{stage_of, no_stage}
use Rattle.model.specs.declared.Plan.{Plan}
use Rattle.model.specs.declared.Job.{Job}
use Rattle.events.specs.JobList.{jobs_of}
use Rattle.internals.specs.Internals.{sums_of}
use Rattle.internals.specs.JobNumbers.{list_over}
use Rattle.internals.proofs.JobsLaid.{slots_laid}
use Rattle.internals.proofs.StageIndex.{stands}
use Rattle.internals.proofs.SumsPass.{few_yet, passed_none, passed_more, passed_all}
use Rattle.plan_bytes.specs.Over.{plan_read}
use Rattle.plan_bytes.proofs.Over.{over_whole, over_none, stages_there, at_over}
use Rattle.table_sums.proofs.NoSums.{no_sums_lem}
use Rattle.table_sums.proofs.sums_of.Goals as goal

pub returns-then-plan-ne8192 : goal.returns-then-plan-ne8192
returns-then-plan-ne8192 c =
    let a = c.args in
    let js = jobs_of (list_over a.jobs.count a.jobs.numbers.now) in
    no_sums_lem a.plan.frame.now js ∙ ap (λ (p : Plan). sums_of p js) (sym (over_none a.plan.frame.now a.plan.stages.now c.if-plan-ne8192.true))

pub loop-i-init : goal.loop-i-init
loop-i-init c =
    let a = c.args in
    passed_none (plan_read a.plan.frame.now a.plan.stages.now) (list_over a.jobs.count a.jobs.numbers.now) (slots_laid a.jobs.numbers.now)

pub with_stage-sums-requires : goal.with_stage-sums-requires
with_stage-sums-requires c =
    let l = c.loop-i in
    let room : l.i < max_jobs = omega arith in
    (few_yet {i = l.i} room l.invariant.units.few, few_yet {i = l.i} room l.invariant.rows.few)

pub loop-i-preserved : goal.loop-i-preserved
unfolding plan_read
loop-i-preserved c =
    let a = c.args in
    let l = c.loop-i in
    let bytes = a.plan.stages.now in
    let p = plan_read a.plan.frame.now bytes in
    let t = list_over a.jobs.count a.jobs.numbers.now in
    let job = c.job_at-j.result in
    let at = c.index_of-at in
    let added = c.with_stage-sums.ensures in
    let room : l.i < max_jobs = omega arith in
    let stage =
    ap (λ (j : Job). stage_of p j.kind j.stage) (sym c.job_at-j.ensures)
    ∙ stands p (stages_there a.plan.frame.now bytes) job.kind job.stage
    ∙ ap (λ n. get_or p.stages n no_stage) (sym at.ensures)
    ∙ ap (λ (q : Plan). get_or q.stages at.result no_stage) (sym (over_whole a.plan.frame.now bytes c.if-plan-ne8192.false))
    ∙ at_over bytes at.result c.if-plan-ne8192.false a.plan.frame.now in
    passed_more p t (slots_laid a.jobs.numbers.now) l.i room _ l.invariant _ stage _ added.0 added.1

pub returns : goal.returns
returns c =
    let a = c.args in
    let l = c.loop-i in
    let bytes = a.plan.stages.now in
    let p = plan_read a.plan.frame.now bytes in
    let t = list_over a.jobs.count a.jobs.numbers.now in
    passed_all p t (slots_laid a.jobs.numbers.now) l.i _ l.invariant (omega arith)
    ∙ ap (λ (p : Plan). sums_of p (jobs_of t)) (sym (over_whole a.plan.frame.now bytes c.if-plan-ne8192.false))
