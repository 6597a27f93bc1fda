-- The emptying rule as a host has it: the check answered 0 and no job was in the cell when the events began.
use Rattle.std.specs.Prelude.{ℕ, List, ◌≡◌}
use Rattle.model.specs.Numbers.{Each}
use Rattle.events.specs.JobList.{empty_list}
use Rattle.events.specs.Events.{IsMove}
use Rattle.events.specs.declared.Event.{Event}
use Rattle.emptying.specs.Run.{run}
use Rattle.emptying.specs.Emptying.{start, EmptyingRule}
use Rattle.cell_layout.specs.Layout.{plan_in, list_in}
use Rattle.cell_layout.specs.HostAnswers.{check_answer, cell_after_all, event_answers, admitted_answers}

-- the bytes hold the lists of the theorem's run, and the moves that it counts are those answered 0
pub record HostRule (bytes : List ℕ) (events moves : List Event) : Type 0 where
  pub between : list_in (cell_after_all bytes events) ≡ (run (plan_in bytes) start events).list
  pub end : list_in (cell_after_all (cell_after_all bytes events) moves) ≡ (run (plan_in bytes) (run (plan_in bytes) start events) moves).list
  pub rule : EmptyingRule (plan_in bytes) (run (plan_in bytes) start events) (run (plan_in bytes) (run (plan_in bytes) start events) moves)
      (admitted_answers (event_answers (cell_after_all bytes events) moves))

abbrev pub HostTheorem : Type 0
HostTheorem =
    (bytes : List ℕ) → check_answer bytes ≡ 0 → list_in bytes ≡ empty_list → (events moves : List Event) → Each IsMove moves → HostRule bytes events moves
