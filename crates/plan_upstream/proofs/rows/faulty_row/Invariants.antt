-- Every row passed is right. A row's stages are gone through as proofs/RowWalk says: at a fault the row is wrong, and with no
-- stage left it is right.
use Rattle.std.proofs.Common.{◌≡◌, suc, None}
use Rattle.model.specs.Numbers.{lowest}
use Rattle.model.specs.Upstream.{upstream_row}
use Rattle.plan_bytes.specs.Over.{plan_of}
use Rattle.plan_upstream.proofs.RowWalk.{Walk}
use Rattle.plan_upstream.proofs.rows.faulty_row.Given as goal

abbrev pub invariant-stages : goal.invariant-stages
invariant-stages l = record { walk : Walk (plan_of l.plan) (suc l.row) l.index l.due; none : l.fault ≡ None }

abbrev pub invariant-rows : goal.invariant-rows
invariant-rows l = record { passed : lowest l.row (upstream_row (plan_of l.plan)) ≡ 0; none : l.fault ≡ None }
