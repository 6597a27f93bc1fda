-- There are bytes enough, or too few. The jobs written are those passed, and the rest is as it was.
use Rattle.std.proofs.Common.{◌≡◌, length, take}
use Rattle.plan_bytes.specs.Over.{entries_in}
use Rattle.cell_layout.specs.Layout.{job_in, job_size, part_in, jobs_part, list_in}
use Rattle.cell_reads.proofs.list_in.Given as goal

abbrev pub invariant-loop-i : goal.invariant-loop-i
invariant-loop-i l =
    record {
      slots : length l.list.jobs ≡ 64;
      written : take l.i l.list.jobs ≡ entries_in job_in job_size l.i (part_in jobs_part l.cell);
      count : l.list.count ≡ (list_in l.cell).count;
    }
