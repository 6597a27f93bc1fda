-- Once the counts and lists pass, soundness is one test at each stage and zeros in the bytes beyond, and each of the first i stages passes it.
use Rattle.std.proofs.Common.{◌≡◌, ◌≤◌, true}
use Rattle.model.specs.Numbers.{all_to}
use Rattle.plan_bytes.proofs.Over.{lent_stage}
use Rattle.plan_soundness.proofs.is_sound.Given as goal

abbrev pub invariant-loop-i : goal.invariant-loop-i
invariant-loop-i l = record { within : l.i ≤ l.total; passed : all_to l.i (lent_stage l.plan.frame.now l.plan.stages.now) ≡ true }
