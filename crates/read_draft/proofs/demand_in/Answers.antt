-- The demands are the first bytes.
use Rattle.std.proofs.Common.{sym}
use Rattle.read_draft.proofs.StageEntries.{no_demand}
use Rattle.read_draft.proofs.demand_in.Goals as goal

pub returns-then-resource-gt32 : goal.returns-then-resource-gt32
returns-then-resource-gt32 c = sym (no_demand c.args.stage.now c.args.resource c.if-resource-gt32.true)
