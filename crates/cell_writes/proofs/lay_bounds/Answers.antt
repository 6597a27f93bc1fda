use Rattle.std.proofs.Common.{refl, add-one, arith}
use Rattle.cell_layout.specs.Layout.{bytes_of, offset_of, bounds_part}
use Rattle.cell_layout.proofs.EntryBytes.{none_written, more_written, all_written, written_length}
use Rattle.cell_writes.proofs.lay_bounds.Goals as goal

pub loop-i-init : goal.loop-i-init
loop-i-init c =
    record {
      room = omega arith;
      laid = none_written (bytes_of 2) 2 (offset_of bounds_part) c.args.bound c.args.cell.now;
    }

pub loop-i-preserved : goal.loop-i-preserved
loop-i-preserved c =
    let a = c.args in
    let l = c.loop-i in
    let next = more_written (bytes_of 2) 2 (offset_of bounds_part) a.bound a.cell.now l.i 0 (omega arith) l.invariant.laid refl refl c.lay_bound.ensures in
    record {
      room = omega (arith, written_length (bytes_of 2) 2 (offset_of bounds_part) a.bound a.cell.now _ next, written_length (bytes_of 2) 2 (offset_of bounds_part) a.bound a.cell.now _ l.invariant.laid);
      laid = rw add-one next;
    }

pub returns : goal.returns
returns c = all_written (bytes_of 2) 2 (offset_of bounds_part) c.args.bound c.args.cell.now _ (omega arith) c.loop-i.invariant.laid
