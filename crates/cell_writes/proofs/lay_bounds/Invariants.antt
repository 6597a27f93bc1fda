-- The entries are laid one behind the other.
use Rattle.std.proofs.Common.{◌≤◌, length}
use Rattle.cell_layout.specs.Layout.{bytes_of, offset_of, bounds_part, cell_size}
use Rattle.cell_layout.proofs.EntryBytes.{EntriesLaid}
use Rattle.cell_writes.proofs.lay_bounds.Given as goal

abbrev pub invariant-loop-i : goal.invariant-loop-i
invariant-loop-i l =
    record {
      room : cell_size ≤ length l.cell;
      laid : EntriesLaid (bytes_of 2) 2 (offset_of bounds_part) l.fn.bound l.initial.cell l.i l.cell;
    }
