-- Whether the greatest so far is 0, with what the entries from i on say, is what all beyond the first n say.
use Rattle.std.proofs.Common.{◌≡◌, ◌&&◌, eqb}
use Rattle.model.specs.Soundness.{zero_beyond}
use Rattle.plan_soundness.proofs.zero_beyond.Given as goal

abbrev pub invariant-loop-i : goal.invariant-loop-i
invariant-loop-i l = zero_beyond l.n l.xs ≡ (eqb l.most 0 && zero_beyond l.i l.xs)
