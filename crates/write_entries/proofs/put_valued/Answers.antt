-- The numbers of the record have 32 bits.
use Rattle.std.proofs.Common.{arith}
use Rattle.canonical_text.specs.WriterInternals.{entry_of}
use Rattle.write_record.proofs.Lengths.{entry_small, valued_short}
use Rattle.write_entries.proofs.put_valued.Goals as goal

pub returns-then-value-ne0-clause-upper_bound : goal.returns-then-value-ne0-clause-upper_bound
returns-then-value-ne0-clause-upper_bound c =
    let a = c.args in
    valued_short a.value (entry_of a.like a.number)
    (entry_small a.like a.number a.value (omega arith, (omega arith, (omega arith, (omega arith, tt)))) (omega arith) (omega arith))

pub returns-else-value-ne0-clause-upper_bound : goal.returns-else-value-ne0-clause-upper_bound
returns-else-value-ne0-clause-upper_bound c =
    let a = c.args in
    valued_short a.value (entry_of a.like a.number)
    (entry_small a.like a.number a.value (omega arith, (omega arith, (omega arith, (omega arith, tt)))) (omega arith) (omega arith))
