-- Every entry passed demands one unit and has its lowest rank noted, and the one at which the loop leaves does not.
use Rattle.std.proofs.Common.{◌≡◌, true, length}
use Rattle.model.specs.Numbers.{all_to}
use Rattle.plan_bytes.specs.Over.{plan_over}
use Rattle.plan_upstream.specs.CheckInternals.{unit_entry, LowestRanks}
use Rattle.plan_upstream.proofs.units.units_of.Given as goal

abbrev pub invariant-loop-other : goal.invariant-loop-other
invariant-loop-other l =
    record {
      passed : all_to l.other (unit_entry (plan_over l.plan.frame.now l.plan.stages.now)) ≡ true;
      full : length l.ranks ≡ 128;
      ranked : LowestRanks (plan_over l.plan.frame.now l.plan.stages.now) l.other l.ranks;
    }
