-- The empty table's jobs, the first ordinal, and no line.
use Rattle.std.proofs.Common.{ap}
use Rattle.admission.specs.declared.Table.{Table}
use Rattle.desk_held.proofs.start_desk.Goals as goal

pub returns : goal.returns
returns c =
    let list = ap (λ (t : Table). t.list) c.empty.ensures in
    λ i. record { list = list i; ordinal = 1; held = c.no_line.ensures i }
