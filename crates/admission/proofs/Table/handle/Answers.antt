-- What the event does to the list by its numbers is what it does to the list, and that is put into a table.
use Rattle.std.proofs.Common.{◌≡◌, ◌∙◌}
use mathlib.Core.Path.{subst}
use Rattle.plan_bytes.specs.Over.{plan_over}
use Rattle.events.specs.Events.{list_outcome}
use Rattle.events.specs.declared.JobList.{JobList}
use Rattle.internals.specs.JobNumbers.{applied}
use Rattle.internals.proofs.JobsLaid.{over_laid}
use Rattle.admission.proofs.HandedBack.{event_handed}
use Rattle.admission.proofs.Table.handle.Goals as goal

pub returns : goal.returns
returns c =
    let a = c.args in
    let plan = plan_over a.plan.frame.now a.plan.stages.now in
    let same = over_laid a.self.list c.laid-numbers.result c.laid-numbers.ensures in
    let judged = c.judge.result in
    let leads = subst (λ (t : JobList). applied t judged ≡ list_outcome plan t a.event) same c.judge.ensures.outcome in
    event_handed plan a.self a.event c.changed-led.result (c.changed-led.ensures ∙ leads)
