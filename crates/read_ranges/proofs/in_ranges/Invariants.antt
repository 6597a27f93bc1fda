-- The fields passed are in their ranges, so what is left to test is the fields from i on.
use Rattle.std.proofs.Common.{◌≡◌, ◌≤◌, drop, length, map}
use Rattle.plan_text.specs.RecordTests.{fits_fields, in_ranges}
use Rattle.read_ranges.specs.Table.{field_said, known_in}
use Rattle.read_ranges.proofs.in_ranges.Given as goal

abbrev pub invariant-loop-i : goal.invariant-loop-i
invariant-loop-i l =
    let k = known_in l.fn.frame in
    record {
      few : length l.fields ≤ 4;
      same : in_ranges k l.fn.rec ≡ fits_fields k l.before (drop l.i (map field_said l.fields)) (drop l.i l.numbers);
    }
