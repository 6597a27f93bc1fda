-- The emptying rule of the values that `run` returns: from the empty table, and on from there.
use Rattle.std.specs.Prelude.{List, ◌≡◌}
use Rattle.model.specs.Numbers.{Each}
use Rattle.model.specs.Upstream.{UpstreamRule}
use Rattle.model.specs.declared.Plan.{Plan}
use Rattle.events.specs.Events.{IsMove}
use Rattle.events.specs.declared.Event.{Event}
use Rattle.emptying.specs.Run.{State, run}
use Rattle.emptying.specs.Emptying.{start, EmptyingRule}
use Rattle.admission.specs.Table.{table_of, empty_table}
use Rattle.table_runs.specs.Run.{ran}
use Rattle.table_runs.specs.declared.Ran.{Ran}

-- the tables handed back are those of the theorem's states, and the moves counted are the theorem's
pub record RunRule (p : Plan) (between end : State) (first last : Ran) : Type 0 where
  pub first_table : first.table ≡ table_of between.list
  pub last_table : last.table ≡ table_of end.list
  pub rule : EmptyingRule p between end last.admitted

abbrev pub RunTheorem : Type 0
RunTheorem =
    (p : Plan) → UpstreamRule p → (events moves : List Event) → Each IsMove moves
    → let between = run p start events in
    let first = ran p empty_table events in
    RunRule p between (run p between moves) first (ran p first.table moves)
