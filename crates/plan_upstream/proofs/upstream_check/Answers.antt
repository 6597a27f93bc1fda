-- The questions of `check` in their order: where the code goes on a question is met.
use Rattle.std.proofs.Common.{refl, sym}
use borrow.Author.Tests.{le-leb, lt-leb}
use Rattle.model.specs.Upstream.{check}
use Rattle.model.proofs.Decide.{holds}
use Rattle.model.proofs.Soundness.{decides_sound}
use Rattle.plan_bytes.specs.Over.{plan_read, plan_over}
use Rattle.plan_upstream.proofs.Stages.{first_rank}
use Rattle.plan_upstream.proofs.upstream_check.Goals as goal

pub returns-then-not-is_sound : goal.returns-then-not-is_sound
unfolding check
returns-then-not-is_sound c = rw (sym c.if-not-is_sound.ensures) refl

pub returns-then-plan-lt1 : goal.returns-then-plan-lt1
unfolding check plan_over plan_read
returns-then-plan-lt1 c =
    let met = sym c.if-not-is_sound.ensures in
    let p = plan_over c.args.plan.frame.now c.args.plan.stages.now in
    rw (met, first_rank p (holds (decides_sound p) met), lt-leb 1 _ c.if-plan-lt1.true) refl

pub check_stages-requires : goal.check_stages-requires
check_stages-requires c = holds (decides_sound (plan_over c.args.plan.frame.now c.args.plan.stages.now)) (sym c.if-not-is_sound.ensures)

pub returns : goal.returns
unfolding check plan_over plan_read
returns c =
    let met = sym c.if-not-is_sound.ensures in
    let p = plan_over c.args.plan.frame.now c.args.plan.stages.now in
    rw (met, first_rank p (holds (decides_sound p) met), le-leb 1 _ c.if-plan-lt1.false) c.check_stages.ensures
