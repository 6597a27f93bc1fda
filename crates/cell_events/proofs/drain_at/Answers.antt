-- A drain is that of the plan and the list in the bytes. The list is written where a move was made.
use Rattle.std.proofs.Common.{ℕ, List, ◌≡◌, ◌≤◌, length, ap, ◌∙◌, arith}
use Rattle.events.specs.Drain.{end_number}
use Rattle.events.specs.declared.JobList.{JobList}
use Rattle.admission.specs.Table.{table_of, drain}
use Rattle.admission.specs.declared.Drained.{Drained}
use Rattle.plan_bytes.specs.Over.{plan_over}
use Rattle.plan_bytes.specs.declared.Frame.{Frame}
use Rattle.cell_layout.specs.Layout.{cell_size, part_in, stages_part, frame_in, plan_in, list_in, with_list}
use Rattle.cell_layout.specs.HostAnswers.{packed, cell_drain}
use Rattle.cell_layout.proofs.Lent.{lent_in}
use Rattle.cell_layout.proofs.HostAnswers.{no_drain, drain_still, drain_moved}
use Rattle.cell_events.proofs.drain_at.Goals as goal

-- the drain is that of the plan and the list in the bytes
drained_in : (bytes : List ℕ) → cell_size ≤ length bytes → (budget : ℕ) {f : Frame} {l : JobList} {r : Drained} → f ≡ frame_in bytes → l ≡ list_in bytes
    → r ≡ drain (plan_over f (part_in stages_part bytes)) (table_of l) budget
    → let d = cell_drain bytes budget in r ≡ record { end = d.end; moves = d.moves; table = table_of d.list }
drained_in bytes room budget {l = l} frame list is =
    is ∙ ap (λ p. drain p (table_of l) budget) (lent_in bytes room frame) ∙ ap (λ l. drain (plan_in bytes) (table_of l) budget) list

pub returns-then-cell-lt-CELL : goal.returns-then-cell-lt-CELL
returns-then-cell-lt-CELL c = let a = c.args in no_drain a.cell.now (omega arith) a.budget

pub returns-then-drained-lt1 : goal.returns-then-drained-lt1
returns-then-drained-lt1 c =
    let bytes = c.args.cell.now in
    let budget = c.args.budget in
    let d = cell_drain bytes budget in
    let room : cell_size ≤ length bytes = omega arith in
    let drained = drained_in bytes room budget c.frame_in-frame.ensures c.list_in-list.ensures c.drain-drained.ensures in
    let made = ap (λ x. x.moves) drained in
    let none : 0 ≡ d.moves = omega (arith, made) in
    let law = drain_still bytes room budget (omega (arith, none)) in (
      c.pack.ensures
          ∙ ap (λ k. packed k 0 0) (c.end_number-number.ensures ∙ ap (λ x. end_number x.end) drained)
          ∙ ap (λ k. packed (end_number d.end) k 0) none
          ∙ law.0,
      law.1,
    )

pub returns : goal.returns
returns c =
    let bytes = c.args.cell.now in
    let budget = c.args.budget in
    let d = cell_drain bytes budget in
    let room : cell_size ≤ length bytes = omega arith in
    let drained = drained_in bytes room budget c.frame_in-frame.ensures c.list_in-list.ensures c.drain-drained.ensures in
    let made = ap (λ x. x.moves) drained in
    let law = drain_moved bytes room budget (omega (arith, made)) in (
      c.pack-2.ensures
          ∙ ap (λ k. packed k c.drain-drained.result.moves 0) (c.end_number-number.ensures ∙ ap (λ x. end_number x.end) drained)
          ∙ ap (λ k. packed (end_number d.end) k 0) made
          ∙ law.0,
      c.put_list.ensures ∙ ap (λ x. with_list x.table.list bytes) drained ∙ law.1,
    )
