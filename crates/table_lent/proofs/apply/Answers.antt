-- A refusal hands back the table that was there.
use Rattle.std.proofs.Common.{◌≡◌, false, sym, ap, ◌∙◌}
use Rattle.model.specs.declared.Plan.{Plan}
use Rattle.events.specs.Events.{is_admitted, answer}
use Rattle.events.specs.declared.Event.{Event}
use Rattle.events.proofs.Answers.{list_refused}
use Rattle.plan_bytes.specs.Over.{plan_over}
use Rattle.admission.specs.Table.{outcome, table_of}
use Rattle.admission.specs.declared.Outcome.{Outcome}
use Rattle.admission.specs.declared.Table.{Table}
use Rattle.table_lent.proofs.apply.Goals as goal

left : (p : Plan) (h : Table) (e : Event) (o : Outcome) → o ≡ outcome p h e → is_admitted o.answer ≡ false → record { answer = o.answer; table = h } ≡ outcome p h e
left p h e o is refused = λ i. record { answer = (is i).answer; table = table_of (sym (list_refused p h.list e same) i) }
  where
    same : is_admitted (answer p h.list e) ≡ false
    same = sym (ap (λ (r : Outcome). is_admitted r.answer) is) ∙ refused

pub returns-else-is_admitted : goal.returns-else-is_admitted
returns-else-is_admitted c =
    let a = c.args in
    let outcome = c.handle-outcome in
    left (plan_over a.plan.frame.now a.plan.stages.now) a.table.now a.event outcome.result outcome.ensures (sym c.is_admitted.ensures ∙ c.if-is_admitted.false)
