-- There are bytes enough, or too few. Each list is what lies in its part.
use Rattle.std.proofs.Common.{arith}
use Rattle.cell_layout.specs.Layout.{offset_of, resources_part, types_part, rows_part, frame_laid}
use Rattle.cell_layout.proofs.Cells.{is_cell_lem}
use Rattle.cell_layout.proofs.EntryBytes.{number_of_one}
use Rattle.cell_reads.proofs.frame_in.Goals as goal

pub returns : goal.returns
unfolding frame_laid
returns c =
    let bytes = c.args.cell.now in
    rw (is_cell_lem bytes (omega arith))
    (λ i. record {
      resources = number_of_one (offset_of resources_part) bytes (omega arith) i;
      types = number_of_one (offset_of types_part) bytes (omega arith) i;
      rows = number_of_one (offset_of rows_part) bytes (omega arith) i;
      capacity = c.bytes.ensures i;
      rank = c.bytes-2.ensures i;
      bound = c.bounds_in.ensures i;
      lengths = c.bytes-3.ensures i;
    })
