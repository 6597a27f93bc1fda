-- What is left to read from a tab on, after the numbers at hand, is what was to be read at the start.
use Rattle.std.proofs.Common.{length, ◌-◌, ◌≡◌, ◌≤◌}
use Rattle.plan_text.specs.Lines.{columns, fields_in}
use Rattle.plan_text.specs.RecordTests.{fields_on, fields_read}
use Rattle.read_fields.proofs.FieldByField.{fields_after}
use Rattle.read_fields.proofs.fields_of.Given as goal

abbrev pub invariant-loop-at : goal.invariant-loop-at
invariant-loop-at l =
    record {
      within : l.at ≤ length l.line;
      few : l.count ≤ 4;
      same : fields_read (fields_in (columns l.line)) ≡ fields_on l.count l.numbers (fields_after l.line l.at);
    }

abbrev pub decreases-loop-at : goal.decreases-loop-at
decreases-loop-at l = length l.line - l.at
