-- The emptying rule of document 01 as one statement about every list of events.
use Rattle.std.specs.Prelude.{ℕ, ◌+◌, ◌≤◌, List, [], ◌≡◌, ◌≢◌, ◌↔◌, length}
use Rattle.model.specs.Limits.{max_jobs}
use Rattle.model.specs.Numbers.{InRange, Each}
use Rattle.model.specs.Plan.{capacity_of}
use Rattle.model.specs.Jobs.{units_held}
use Rattle.model.specs.Upstream.{UpstreamRule}
use Rattle.model.specs.declared.Plan.{Plan}
use Rattle.events.specs.JobList.{list_of, empty_list}
use Rattle.events.specs.Events.{IsMove, answer}
use Rattle.events.specs.Drain.{stages_before}
use Rattle.emptying.specs.Run.{State, run, from, answers, admitted_count}
use Rattle.events.specs.declared.Event.{Event}
use Rattle.events.specs.declared.JobList.{JobList}
use Rattle.events.specs.declared.Answer.TheVariants.{Admitted}

-- some advance or unload is admitted
pub record SomeMove (p : Plan) (t : JobList) : Type 0 where
  pub event : Event
  pub move : IsMove event
  pub admitted : answer p t event ≡ Admitted

-- the empty table and the empty ledger
abbrev pub start : State
start = from empty_list

-- of the state between the lists and the state at the end, with the number of moves made on the way
pub record EmptyingRule (p : Plan) (between end : State) (made : ℕ) : Type 0 where
  -- a: the table holds the ledger's jobs in its order, and zeros beyond
  pub same : end.list ≡ list_of end.ledger.jobs
  pub few : length end.ledger.jobs ≤ max_jobs
  -- b: units taken are units given back plus what the present stages demand, within capacity
  pub units : (r : ℕ) → InRange r p.resources → end.ledger.taken r ≡ end.ledger.given r + units_held p r end.ledger.jobs
  pub capacity : (r : ℕ) → InRange r p.resources → units_held p r end.ledger.jobs ≤ capacity_of p r
  -- c: some move is admitted exactly when a job remains
  pub movable : SomeMove p end.list ↔ (end.ledger.jobs ≢ [])
  -- d: each admitted move is one stage fewer before the jobs
  pub count : made + stages_before p end.ledger.jobs ≡ stages_before p between.ledger.jobs
  -- e: where none is admitted the cell is empty, after one move for each stage
  pub emptied : (¬ SomeMove p end.list) → (end.list ≡ empty_list) × (made ≡ stages_before p between.ledger.jobs)

-- demand 3: a plan that meets the upstream rule, any list of events from the start, any list of moves from there
abbrev pub EmptyingTheorem : Type 0
EmptyingTheorem =
    (p : Plan) → UpstreamRule p → (events moves : List Event) → Each IsMove moves
    → EmptyingRule p (run p start events) (run p (run p start events) moves) (admitted_count (answers p (run p start events).list moves))
