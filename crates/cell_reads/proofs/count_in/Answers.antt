-- There are bytes enough, or too few; the count is a number of one byte.
use Rattle.std.proofs.Common.{refl, ◌∙◌, arith}
use Rattle.events.specs.JobList.{list_of}
use Rattle.cell_layout.specs.Layout.{offset_of, job_count_part, list_laid}
use Rattle.cell_layout.proofs.Cells.{is_cell_lem, no_cell_lem}
use Rattle.cell_layout.proofs.EntryBytes.{number_of_one}
use Rattle.cell_reads.proofs.count_in.Goals as goal

pub returns-then-cell-lt-CELL : goal.returns-then-cell-lt-CELL
unfolding list_of
returns-then-cell-lt-CELL c = rw (no_cell_lem c.args.cell.now (omega arith)) refl

pub returns : goal.returns
unfolding list_laid
returns c =
    let bytes = c.args.cell.now in
    rw (is_cell_lem bytes (omega arith)) (c.from.ensures ∙ number_of_one (offset_of job_count_part) bytes (omega arith))
