-- What a stage demands and what it weighs are lent where they lie.
use Rattle.std.proofs.Common.{arith, sym}
use Rattle.model.specs.Plan.{no_stage}
use Rattle.plan_bytes.proofs.Laid.{stage_lent_lem}
use Rattle.write_lines.proofs.Sinks.{nothing_put}
use Rattle.write_stages.specs.StageRecords.{stage_read, stage_records}
use Rattle.write_stages.proofs.StageRecords.{records_beyond}
use Rattle.write_stages.proofs.put_stage.Goals as goal

pub returns-then-index-ge128-clause-value : goal.returns-then-index-ge128-clause-value
returns-then-index-ge128-clause-value c =
    let a = c.args in
    rw (records_beyond a.plan.stages.now a.plan.frame.now.resources a.row a.kind a.stage a.index c.if-index-ge128.true) (sym (nothing_put a.out.now))

pub returns-then-index-ge128-clause-upper_bound : goal.returns-then-index-ge128-clause-upper_bound
returns-then-index-ge128-clause-upper_bound c =
    let a = c.args in
    rw (records_beyond a.plan.stages.now a.plan.frame.now.resources a.row a.kind a.stage a.index c.if-index-ge128.true) (omega arith)

pub returns-in-None-clause-value : goal.returns-in-None-clause-value
unfolding stage_read stage_records
returns-in-None-clause-value c =
    let a = c.args in
    rw (c.in-None.is, stage_lent_lem a.plan.stages.now a.index no_stage (omega arith)) c.put_entries.ensures.value

pub returns-in-Some-clause-value : goal.returns-in-Some-clause-value
unfolding stage_read stage_records
returns-in-Some-clause-value c =
    let a = c.args in
    rw (c.in-Some.is, stage_lent_lem a.plan.stages.now a.index no_stage (omega arith), ← c.entry_of.ensures) c.put_valued.ensures.value

pub returns-in-None-clause-upper_bound : goal.returns-in-None-clause-upper_bound
unfolding stage_read stage_records
returns-in-None-clause-upper_bound c =
    let a = c.args in
    rw (c.in-None.is, stage_lent_lem a.plan.stages.now a.index no_stage (omega arith))
    (omega (arith, c.put_entries.ensures.upper_bound))

pub returns-in-Some-clause-upper_bound : goal.returns-in-Some-clause-upper_bound
unfolding stage_read stage_records
returns-in-Some-clause-upper_bound c =
    let a = c.args in
    rw (c.in-Some.is, stage_lent_lem a.plan.stages.now a.index no_stage (omega arith), ← c.entry_of.ensures) (omega (arith, c.put_valued.ensures.upper_bound))
