-- Nothing is written beyond the last slot.
use Rattle.std.proofs.Common.{refl, arith}
use Rattle.std.proofs.Math.Seq.{set_out}
use Rattle.internals.specs.Internals.{with_replaced}
use Rattle.table_jobs.proofs.with_replaced.Goals as goal

pub returns-then-at-ge64 : goal.returns-then-at-ge64
unfolding with_replaced
returns-then-at-ge64 c =
    let a = c.args in
    rw (set_out a.t.jobs a.at a.j (omega arith)) refl

pub returns : goal.returns
unfolding with_replaced
returns c = refl
