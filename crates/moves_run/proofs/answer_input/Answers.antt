-- That the output fits is measured, or known of every output.
use Rattle.std.proofs.Common.{arith}
use Rattle.moves_text.proofs.Enough.{output_fits}
use Rattle.moves_run.proofs.answer_input.Goals as goal

pub fill-requires : goal.fill-requires
fill-requires c = omega (arith, output_fits c.args.input.now, c.if-buffer-ge-ENOUGH.true)
