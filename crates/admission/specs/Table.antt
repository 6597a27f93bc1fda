-- The table that a host holds: a job list, with what its methods hand back. What is answered, and the list afterwards, are
-- those of the crate `events`.
use Rattle.std.specs.Prelude.{ℕ}
use Rattle.model.specs.declared.Plan.{Plan}
use Rattle.events.specs.JobList.{empty_list}
use Rattle.events.specs.Events.{answer, list_after}
use Rattle.events.specs.Drain.{list_drain}
use Rattle.events.specs.declared.JobList.{JobList}
use Rattle.events.specs.declared.Event.{Event}
use Rattle.admission.specs.declared.Table.{Table}
use Rattle.admission.specs.declared.Outcome.{Outcome}
use Rattle.admission.specs.declared.Drained.{Drained}

-- the table that holds this list
abbrev pub table_of : JobList → Table
table_of l = record { list = l }

abbrev pub empty_table : Table
empty_table = table_of empty_list

-- the answer to an event, and the table afterwards
abbrev pub outcome : Plan → Table → Event → Outcome
outcome p t e = record { answer = answer p t.list e; table = table_of (list_after p t.list e) }

abbrev pub drain : Plan → Table → ℕ → Drained
drain p t budget =
    let d = list_drain p t.list budget in record { end = d.end; moves = d.moves; table = table_of d.list }
