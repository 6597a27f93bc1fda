-- A line of words is short, whatever its numbers are.
use Rattle.std.proofs.Common.{arith}
use Rattle.moves_text.specs.OutputLines.{malformed}
use Rattle.told_text.specs.Slips.{slip_words}
use Rattle.told_text.proofs.Short.{slip_short, told_line_short}
use Rattle.tell_event.proofs.put_malformed_message.Goals as goal

pub returns-clause-upper_bound : goal.returns-clause-upper_bound
returns-clause-upper_bound c = let a = c.args in told_line_short a.ordinal malformed (slip_words a.slip) (omega arith) (slip_short a.slip)
