-- A line of answers and a line of words are short, whatever their numbers are.
use Rattle.std.proofs.Common.{arith}
use Rattle.moves_text.specs.OutputLines.{malformed}
use Rattle.told_text.specs.Slips.{slip_words}
use Rattle.told_text.proofs.Short.{slip_short, told_line_short}
use Rattle.write_lines.proofs.Lengths.{event_line_bounded}
use Rattle.desk_line.proofs.reply_to_malformed.Goals as goal

pub returns-clause-short : goal.returns-clause-short
returns-clause-short c =
    let d = c.args.desk in (
      event_line_bounded d.ordinal malformed 0 d.list.count (omega arith) (omega arith) (omega arith) (omega arith),
      told_line_short d.ordinal malformed (slip_words c.args.slip) (omega arith) (slip_short c.args.slip),
    )
