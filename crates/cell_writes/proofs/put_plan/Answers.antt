-- The frame, and the stages if all of them are lent.
use Rattle.std.proofs.Common.{refl, ◌∙◌, arith}
use Rattle.plan_bytes.specs.Over.{plan_read, plan_over}
use Rattle.cell_layout.specs.Layout.{with_plan}
use Rattle.cell_layout.proofs.Cells.{is_cell_lem, no_cell_lem}
use Rattle.cell_layout.proofs.Lent.{stages_put, no_stages_put}
use Rattle.cell_writes.proofs.put_plan.Goals as goal

pub returns-then-cell-lt-CELL : goal.returns-then-cell-lt-CELL
unfolding with_plan
returns-then-cell-lt-CELL c = rw (no_cell_lem c.args.cell.now (omega arith)) refl

pub returns-then-plan-ne-ALL_STAGES : goal.returns-then-plan-ne-ALL_STAGES
unfolding with_plan plan_over plan_read
returns-then-plan-ne-ALL_STAGES c =
    let a = c.args in
    rw (is_cell_lem a.cell.now (omega arith)) (c.lay_frame.ensures ∙ no_stages_put a.plan.frame.now a.plan.stages.now c.if-plan-ne-ALL_STAGES.true _)

pub returns : goal.returns
unfolding with_plan plan_over plan_read
returns c =
    let a = c.args in
    rw (is_cell_lem a.cell.now (omega arith)) (stages_put a.plan.frame.now a.plan.stages.now c.if-plan-ne-ALL_STAGES.false c.put_text.ensures.1 c.lay_frame.ensures)
