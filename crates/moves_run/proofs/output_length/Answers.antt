-- An output is short enough to be counted.
use Rattle.std.proofs.Common.{refl, arith}
use Rattle.moves_text.specs.Output.{output}
use Rattle.moves_text.proofs.Enough.{output_fits}
use Rattle.write_lines.proofs.Sinks.{new_whole}
use Rattle.moves_run.proofs.output_length.Goals as goal

pub returns : goal.returns
returns c =
    let input = c.args.input.now in
    (new_whole (output input) _ _ refl c.put_output.ensures (omega (arith, output_fits input))).0
