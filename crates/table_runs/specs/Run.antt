-- What `run` hands back: the table after a list of events, and how many were admitted. The list is that of the emptying
-- theorem.
use Rattle.std.specs.Prelude.{cond, List, [], ◌∷◌, ◌++◌, ℕ, eqb}
use Rattle.model.specs.declared.Plan.{Plan}
use Rattle.events.specs.declared.Event.{Event}
use Rattle.events.specs.declared.Event.TheVariants.{Load, Advance, Unload, Pull}
use Rattle.emptying.specs.Run.{from, run, answers, admitted_count}
use Rattle.admission.specs.Table.{table_of}
use Rattle.admission.specs.declared.Table.{Table}
use Rattle.table_runs.specs.declared.Ran.{Ran}

-- the table after the events, and how many of them were admitted
abbrev pub ran : Plan → Table → List Event → Ran
ran p t es =
    record { table = table_of (run p (from t.list) es).list; admitted = admitted_count (answers p t.list es) }

-- events as numbers: a letter, a job number and a type. L loads, A advances, U unloads and X pulls, as in an event line;
-- another letter is no event, and the list ends where the shortest slice does
abbrev pub event_of : ℕ → ℕ → ℕ → List Event
event_of letter n t =
    cond (eqb letter 76) (Load n t ∷ [])
    (cond (eqb letter 65) (Advance n ∷ [])
    (cond (eqb letter 85) (Unload n ∷ []) (cond (eqb letter 88) (Pull n ∷ []) [])))

abbrev pub events_of : List ℕ → List ℕ → List ℕ → List Event
events_of [] jobs kinds = []
events_of (l ∷ letters) [] kinds = []
events_of (l ∷ letters) (n ∷ jobs) [] = []
events_of (l ∷ letters) (n ∷ jobs) (t ∷ kinds) = event_of l n t ++ events_of letters jobs kinds
