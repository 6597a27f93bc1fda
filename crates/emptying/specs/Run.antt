-- A run: a list of events, all with the same plan, from a job list and a ledger.
use Rattle.std.specs.Prelude.{ℕ, ◌+◌, cond, List, [], ◌∷◌}
use Rattle.model.specs.declared.Plan.{Plan}
use Rattle.events.specs.Events.{answer, list_after, is_admitted}
use Rattle.emptying.specs.Ledger.{Ledger, empty_ledger, ledger_after}
use Rattle.events.specs.declared.JobList.{JobList}
use Rattle.events.specs.declared.Event.{Event}
use Rattle.events.specs.declared.Answer.{Answer}

-- the job list after the events, and their answers
abbrev pub list_after_all : Plan → JobList → List Event → JobList
list_after_all p t [] = t
list_after_all p t (e ∷ es) = list_after_all p (list_after p t e) es

abbrev pub answers : Plan → JobList → List Event → List Answer
answers p t [] = []
answers p t (e ∷ es) = answer p t e ∷ answers p (list_after p t e) es

-- how many were admitted
abbrev pub admitted_count : List Answer → ℕ
admitted_count [] = 0
admitted_count (a ∷ more) = cond (is_admitted a) 1 0 + admitted_count more

pub record State : Type 0 where
  pub list : JobList
  pub ledger : Ledger

abbrev pub run : Plan → State → List Event → State
run p s es =
    record { list = list_after_all p s.list es; ledger = ledger_after p s.ledger es (answers p s.list es) }

-- from a job list, with the ledger empty
abbrev pub from : JobList → State
from t = record { list = t; ledger = empty_ledger }
