-- What is answered and written is what the reading of the text says.
use Rattle.std.proofs.Common.{ap, ◌∙◌, arith}
use Rattle.cell_layout.specs.Layout.{with_plan}
use Rattle.cell_layout.specs.HostAnswers.{packed, packed_reading, read_answer, read_cell}
use Rattle.cell_layout.proofs.Cells.{is_cell_lem}
use Rattle.cell_layout.proofs.HostAnswers.{no_read}
use Rattle.rilthoss.proofs.rilthoss_read_plan.Goals as goal

pub returns-then-cell-lt-CELL : goal.returns-then-cell-lt-CELL
returns-then-cell-lt-CELL c = let a = c.args in no_read a.cell.now (omega arith) a.text.now

pub returns : goal.returns
unfolding read_answer read_cell
returns c =
    let a = c.args in
    let text = c.read-reading in (
      rw (is_cell_lem a.cell.now (omega arith))
          (c.pack.ensures ∙ ap (λ n. packed n text.result.line 0) c.text_number.ensures ∙ ap packed_reading text.ensures),
      c.put_plan.ensures ∙ ap (λ x. with_plan x.plan a.cell.now) text.ensures,
    )
