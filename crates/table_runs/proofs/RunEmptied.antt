-- A run's table and count are those of the emptying theorem by their definitions, so its rule is the theorem's.
use mathlib.Core.Path.{refl}
use Rattle.emptying.proofs.Emptying.{emptying_theorem}
use Rattle.table_runs.specs.RunRule.{RunTheorem}

pub run_theorem : RunTheorem
run_theorem p rule events moves are-moves =
    record { first_table = refl; last_table = refl; rule = emptying_theorem p rule events moves are-moves }
