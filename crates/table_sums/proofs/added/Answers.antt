use Rattle.std.proofs.Common.{suc, arith}
use Rattle.table_sums.proofs.added.Goals as goal

pub overflow_add-sums : goal.overflow_add-sums
overflow_add-sums c = omega (arith, c.requires.low (suc c.loop-i.i) (omega arith))
