-- There are bytes enough, or too few. The numbers written are those passed, and three of them are a job.
use Rattle.std.proofs.Common.{◌≡◌, length, take}
use Rattle.plan_bytes.specs.Over.{entries_in}
use Rattle.cell_layout.specs.Layout.{value_of, part_in, jobs_part}
use Rattle.cell_reads.proofs.jobs_in.Given as goal

abbrev pub invariant-loop-i : goal.invariant-loop-i
invariant-loop-i l = record { size : length l.jobs ≡ 192; written : take l.i l.jobs ≡ entries_in value_of 4 l.i (part_in jobs_part l.cell) }
