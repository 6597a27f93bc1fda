-- Three numbers, one behind the other.
use Rattle.std.proofs.Common.{◌++◌, refl}
use Rattle.cell_layout.specs.Layout.{bytes_of}
use Rattle.cell_layout.proofs.EntryBytes.{behind}
use Rattle.cell_writes.proofs.lay_job.Goals as goal

pub returns : goal.returns
returns c =
    let a = c.args in
    let bytes = a.cell.now in
    let number = bytes_of 4 a.j.number in
    let kind = bytes_of 4 a.j.kind in
    behind a.at (number ++ kind) (bytes_of 4 a.j.stage) bytes refl (behind a.at number kind bytes refl c.lay_number.ensures c.lay_number-2.ensures)
    c.lay_number-3.ensures
