-- The check is that of the plan in the bytes.
use Rattle.std.proofs.Common.{ap, ◌∙◌, arith}
use Rattle.model.specs.Upstream.{check_numbers, check}
use Rattle.cell_layout.specs.HostAnswers.{packed, packed_check}
use Rattle.cell_layout.specs.Layout.{plan_in}
use Rattle.cell_layout.proofs.Lent.{lent_in}
use Rattle.cell_layout.proofs.CheckFits.{check_packed_small}
use Rattle.cell_layout.proofs.HostAnswers.{no_check, checked}
use Rattle.rilthoss.proofs.rilthoss_check.Goals as goal

pub returns-then-cell-lt-CELL : goal.returns-then-cell-lt-CELL
returns-then-cell-lt-CELL c = no_check c.args.cell.now (omega arith)

pub pack_two-requires : goal.pack_two-requires
pack_two-requires c =
    let bytes = c.args.cell.now in
    let small = check_packed_small (plan_in bytes) in
    let same = c.upstream_check-check.ensures ∙ ap check (lent_in bytes (omega arith) c.frame_in-frame.ensures) in
    (omega (arith, small.0, c.check_number-number.ensures ∙ ap (λ k. (check_numbers k).0) same), omega (arith, small.1, c.check_second-second.ensures ∙ ap (λ k. (check_numbers k).2) same))

pub returns : goal.returns
returns c =
    let bytes = c.args.cell.now in
    let k = c.upstream_check-check.result in
    let same = c.upstream_check-check.ensures ∙ ap check (lent_in bytes (omega arith) c.frame_in-frame.ensures) in
    c.pack_two.ensures
    ∙ ap (λ n. packed n c.check_first-first.result c.check_second-second.result) c.check_number-number.ensures
    ∙ ap (λ n. packed (check_numbers k).0 n c.check_second-second.result) c.check_first-first.ensures
    ∙ ap (λ n. packed (check_numbers k).0 (check_numbers k).1 n) c.check_second-second.ensures
    ∙ ap packed_check same
    ∙ checked bytes (omega arith)
