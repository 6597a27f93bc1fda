use Rattle.std.proofs.Common.{ℕ, refl, ap, ◌∙◌, inl, inr, arith}
use Rattle.model.proofs.Search.{greatest_more}
use Rattle.internals.specs.Internals.{greatest_after}
use Rattle.internals.specs.declared.WorstRow.{WorstRow}
use Rattle.table_sums.proofs.worst_row.Goals as goal
use Rattle.table_sums.proofs.worst_row.Goals.{then-excess-above, else-excess-above}

abbrev found : ℕ → ℕ → WorstRow
found row excess = record { row = row; excess = excess }

abbrev parts : WorstRow → ℕ × ℕ
parts w = (w.row, w.excess)

pub loop-i-init : goal.loop-i-init
unfolding greatest_after
loop-i-init c = refl

pub loop-i-preserved : goal.loop-i-preserved
unfolding greatest_after
loop-i-preserved c =
    let l = c.loop-i in
    let above = c.above_ceiling-above.ensures in
    let so_far = ap parts l.invariant in
    ap (λ (w : ℕ × ℕ). found w.0 w.1)
    (elim c.if-excess-above.branch [
      | then-excess-above w ↦ greatest_more _ l.i so_far (λ w. w) (λ w. w) (inl (omega (arith, above), w.row-is, w.excess-is ∙ above))
      | else-excess-above w ↦ greatest_more _ l.i so_far (λ w. w) (λ w. w) (inr (omega (arith, above), w.row-is, w.excess-is))
    ])
