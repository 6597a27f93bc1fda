-- The number of the digits so far is at hand and below a power of 10; what is left to read after it is what was to be read at the start.
use Rattle.std.proofs.Common.{drop, ◌^◌, ◌≡◌, ◌<◌}
use Rattle.plan_text.specs.ReaderInternals.{value_read}
use Rattle.read_fields.proofs.Digits.{digits_on}
use Rattle.read_fields.proofs.value_read.Given as goal

abbrev pub invariant-loop-b : goal.invariant-loop-b
invariant-loop-b l =
    record {
      small : l.x < 10 ^ l.b-index;
      same : value_read l.digits ≡ digits_on l.x (drop l.b-index l.digits);
    }
