-- All are in range with zeros beyond, or the whole list is zeros.
use Rattle.std.proofs.Common.{arith, refl}
use mathlib.Core.Bool.{and-or_distrib_right}
use Rattle.model.specs.Soundness.{sound_ranks}
use Rattle.plan_soundness.proofs.ZeroBeyond.{zero_all}
use Rattle.plan_soundness.proofs.sound_ranks.Goals as goal

pub returns-then-in_range_to : goal.returns-then-in_range_to
unfolding sound_ranks
returns-then-in_range_to c = rw (and-or_distrib_right, ← c.in_range_to.ensures, c.if-in_range_to.true) refl

pub returns-else-in_range_to : goal.returns-else-in_range_to
unfolding sound_ranks
returns-else-in_range_to c =
    rw (and-or_distrib_right, ← c.in_range_to.ensures, c.if-in_range_to.false, ← zero_all c.args.rank.now c.args.n (omega arith))
    c.zero_beyond.ensures
