-- The four bytes lie there as a number.
use Rattle.std.proofs.Common.{◌∙◌, arith}
use Rattle.std.proofs.Math.Nat.{div-div-eq-div-mul}
use Rattle.cell_writes.proofs.PartLaid.{part_laid}
use Rattle.cell_writes.proofs.lay_number.Goals as goal

pub returns : goal.returns
returns c =
    let a = c.args in
    rw (c.copy_from_slice.ensures.after ∙ c.to_le_bytes.ensures, div-div-eq-div-mul a.n 256 256, div-div-eq-div-mul a.n 65536 256)
    (part_laid a.at _ _ a.cell.now (omega arith) (omega arith))
