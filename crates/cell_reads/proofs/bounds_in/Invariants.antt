-- The entries written are those passed, and the rest is as it was.
use Rattle.std.proofs.Common.{◌≡◌, length, take}
use Rattle.plan_bytes.specs.Over.{entries_in}
use Rattle.cell_layout.specs.Layout.{value_of}
use Rattle.cell_reads.proofs.bounds_in.Given as goal

abbrev pub invariant-loop-i : goal.invariant-loop-i
invariant-loop-i l = record { size : length l.bounds ≡ 32; written : take l.i l.bounds ≡ entries_in value_of 2 l.i l.part }
