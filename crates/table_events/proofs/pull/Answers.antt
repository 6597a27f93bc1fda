-- The job goes where the questions are met; that is admitted at any stage.
use Rattle.std.proofs.Common.{refl}
use Rattle.internals.specs.JobNumbers.{list_lent}
use Rattle.internals.specs.declared.StageAsked.TheVariants.{Any}
use Rattle.internals.proofs.ActiveQuestions.{pull_goes}
use Rattle.plan_bytes.specs.Over.{plan_of}
use Rattle.table_events.proofs.RemovalOutcome.{removal_outcome}
use Rattle.table_events.proofs.pull.Goals as goal

pub returns : goal.returns
returns c =
    let a = c.args in
    rw c.removal.ensures (removal_outcome (plan_of a.plan) (list_lent a.jobs) a.job Any refl (λ stands met. pull_goes stands))
