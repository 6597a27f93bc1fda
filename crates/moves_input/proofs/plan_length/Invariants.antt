-- The bytes passed and those left before the mark are the plan's length at every line; at the mark none is left.
use Rattle.std.proofs.Common.{◌≡◌, ◌≤◌, length}
use Rattle.moves_text.specs.Division.{plan_length}
use Rattle.moves_input.proofs.PlanEnd.{plan_from}
use Rattle.moves_input.proofs.plan_length.Given as goal

abbrev pub invariant-loop-line : goal.invariant-loop-line
invariant-loop-line l =
    record {
      text : l.reader.text.now ≡ l.input;
      stands : l.reader.at ≡ l.at;
      within : l.at ≤ length l.input;
      same : plan_length l.input ≡ plan_from l.input l.at;
    }
