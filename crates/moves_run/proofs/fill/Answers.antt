-- What is put where the output fits is what fills the buffer.
use Rattle.std.proofs.Common.{refl, ◌∙◌, arith}
use Rattle.moves_text.specs.Output.{output}
use Rattle.moves_text.proofs.Enough.{output_fits}
use Rattle.moves_text.proofs.Overlays.{overlaid_fits}
use Rattle.write_lines.proofs.Sinks.{new_whole, same_lent}
use Rattle.moves_run.proofs.fill.Goals as goal

pub returns : goal.returns
returns c =
    let a = c.args in
    let text = output a.input.now in
    let put = new_whole text _ _ refl c.put_output.ensures (omega (arith, output_fits a.input.now)) in
    let lent = same_lent text _ _ c.put_output.ensures in
    let w = overlaid_fits text a.buffer.now c.requires in
    let whole = put.1 ∙ w.1 in
    (put.0 ∙ w.0, grind arith)
