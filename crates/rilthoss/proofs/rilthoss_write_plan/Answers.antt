-- What is answered and written is what the writing of the cell's plan says.
use Rattle.std.proofs.Common.{ℕ, List, ◌≡◌, ◌≤◌, length, ap, ◌∙◌, arith}
use Rattle.canonical_text.specs.Writing.{writing, buffer_after}
use Rattle.canonical_text.specs.declared.Writing.{Writing}
use Rattle.canonical_text.proofs.WriteAnswers.{writing_short}
use Rattle.plan_bytes.specs.Over.{plan_over}
use Rattle.plan_bytes.specs.declared.Frame.{Frame}
use Rattle.cell_layout.specs.Layout.{cell_size, stages_part, part_in, frame_in, plan_in}
use Rattle.cell_layout.specs.HostAnswers.{packed, packed_writing}
use Rattle.cell_layout.proofs.Lent.{lent_in}
use Rattle.cell_layout.proofs.HostAnswers.{no_write, plan_written}
use Rattle.rilthoss.proofs.rilthoss_write_plan.Goals as goal

-- the plan that is written is that of the cell
told : (bytes : List ℕ) → cell_size ≤ length bytes → (buffer : List ℕ) {f : Frame} {w : Writing} → f ≡ frame_in bytes
    → w ≡ writing (plan_over f (part_in stages_part bytes)) buffer → w ≡ writing (plan_in bytes) buffer
told bytes room buffer frame is = is ∙ ap (λ p. writing p buffer) (lent_in bytes room frame)

pub returns-then-cell-lt-CELL : goal.returns-then-cell-lt-CELL
returns-then-cell-lt-CELL c = let a = c.args in no_write a.cell.now (omega arith) a.buffer.now

pub overflow_cast-written : goal.overflow_cast-written
overflow_cast-written c =
    let bytes = c.args.cell.now in
    let buffer = c.args.buffer.now in
    omega (arith, ap (λ (w : Writing). w.length) (told bytes (omega arith) buffer c.frame_in-frame.ensures c.write_plan-written.ensures.0), writing_short (plan_in bytes) buffer)

pub returns : goal.returns
returns c =
    let bytes = c.args.cell.now in
    let buffer = c.args.buffer.now in
    let room : cell_size ≤ length bytes = omega arith in
    let w = plan_written bytes room buffer in (
      c.pack.ensures
          ∙ ap (λ n. packed n c.write_plan-written.result.length 0) c.write_number.ensures
          ∙ ap packed_writing (told bytes room buffer c.frame_in-frame.ensures c.write_plan-written.ensures.0)
          ∙ w.0,
      c.write_plan-written.ensures.1 ∙ ap (λ p. buffer_after p buffer) (lent_in bytes room c.frame_in-frame.ensures) ∙ w.1,
    )
