-- The line, of at most 24 bytes, is put where it fits.
use Rattle.std.proofs.Common.{arith, ◌≤◌, length, refl, ◌∙◌}
use Rattle.moves_text.specs.OutputLines.{plan_line}
use Rattle.moves_text.proofs.Enough.{plan_line_bounded}
use Rattle.moves_text.proofs.Overlays.{overlaid_fits, nothing_filled}
use Rattle.write_lines.proofs.Sinks.{new_whole, same_lent}
use Rattle.write_canonical.proofs.put_refusal.Goals as goal

pub returns-then-buffer-n : goal.returns-then-buffer-n
returns-then-buffer-n c =
    let a = c.args in
    let text = plan_line a.number a.line in
    let few : length text ≤ 24 = plan_line_bounded a.number a.line (omega arith) (omega arith) in
    let measured = new_whole text _ _ refl c.put_plan_line.ensures (omega (arith, few)) in
    nothing_filled text a.buffer.now (omega (arith, measured.0, c.if-buffer-n.true))

pub returns : goal.returns
returns c =
    let a = c.args in
    let text = plan_line a.number a.line in
    let few : length text ≤ 24 = plan_line_bounded a.number a.line (omega arith) (omega arith) in
    let measured = new_whole text _ _ refl c.put_plan_line.ensures (omega (arith, few)) in
    let put = new_whole text _ _ refl c.put_plan_line-2.ensures (omega (arith, few)) in
    let lent = same_lent text _ _ c.put_plan_line-2.ensures in
    let w = overlaid_fits text a.buffer.now (omega (arith, measured.0, c.if-buffer-n.false)) in
    let whole = put.1 ∙ w.1 in
    (measured.0 ∙ w.0, grind arith)
