-- The count, and behind it the entries, one behind the other.
use Rattle.std.proofs.Common.{◌≤◌, length}
use Rattle.cell_layout.specs.Layout.{job_bytes, job_size, offset_of, jobs_part, cell_size}
use Rattle.cell_layout.proofs.EntryBytes.{EntriesLaid}
use Rattle.cell_writes.proofs.put_list.Given as goal

abbrev pub invariant-loop-i : goal.invariant-loop-i
invariant-loop-i l =
    record {
      room : cell_size ≤ length l.cell;
      laid : EntriesLaid job_bytes job_size (offset_of jobs_part) l.l.jobs l.initial.cell l.i l.cell;
    }
