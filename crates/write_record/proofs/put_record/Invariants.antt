-- Each turn puts a tab and a number behind what the line has.
use Rattle.canonical_text.specs.CanonicalText.{letter_of}
use Rattle.write_record.proofs.Fields.{Grown}
use Rattle.write_record.proofs.put_record.Given as goal

abbrev pub invariant-loop-number : goal.invariant-loop-number
invariant-loop-number l = Grown (letter_of l.fn.rec) l.number-items l.line l.to l.number-index
