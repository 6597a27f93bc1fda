-- The job goes where the questions are met; at its last stage that is always admitted.
use Rattle.std.proofs.Common.{refl, sym}
use borrow.Author.Tests.{eqb-true}
use Rattle.internals.specs.JobNumbers.{list_lent}
use Rattle.internals.specs.declared.StageAsked.TheVariants.{Last}
use Rattle.internals.proofs.ActiveQuestions.{unload_goes}
use Rattle.plan_bytes.specs.Over.{plan_of}
use Rattle.table_events.proofs.RemovalOutcome.{removal_outcome}
use Rattle.table_events.proofs.unload.Goals as goal

pub returns : goal.returns
returns c =
    let a = c.args in
    rw c.removal.ensures (removal_outcome (plan_of a.plan) (list_lent a.jobs) a.job Last refl (λ stands met. unload_goes stands (sym (eqb-true _ _ met))))
