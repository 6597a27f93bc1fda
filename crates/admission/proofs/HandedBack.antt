-- What a method hands back is what the function below it handed back, with the list in a table.
use Prim.Native.Nat.{ℕ}
use mathlib.Core.Path.{◌≡◌}
use Rattle.model.specs.declared.Plan.{Plan}
use Rattle.events.specs.Events.{list_outcome}
use Rattle.events.specs.Drain.{list_drain}
use Rattle.events.specs.declared.Event.{Event}
use Rattle.events.specs.declared.ListOutcome.{ListOutcome}
use Rattle.events.specs.declared.ListDrained.{ListDrained}
use Rattle.admission.specs.Table.{table_of, outcome, drain}
use Rattle.admission.specs.declared.Table.{Table}

module _ (p : Plan) (t : Table) where
  pub event_handed : (e : Event) (o : ListOutcome) → o ≡ list_outcome p t.list e → record { answer = o.answer; table = table_of o.list } ≡ outcome p t e
  event_handed e o h = λ i. record { answer = (h i).answer; table = table_of (h i).list }

  pub drain_handed : (budget : ℕ) (d : ListDrained)
      → d ≡ list_drain p t.list budget → record { end = d.end; moves = d.moves; table = table_of d.list } ≡ drain p t budget
  drain_handed budget d h = λ i. record { end = (h i).end; moves = (h i).moves; table = table_of (h i).list }
