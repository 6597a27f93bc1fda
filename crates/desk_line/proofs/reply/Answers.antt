-- By what the line means: nothing is put of a skipped one, and the two others have their functions.
use Rattle.std.proofs.Common.{◌≡◌, sym, ◌∙◌, arith}
use Rattle.moves_text.specs.declared.EventLine.TheVariants.{Malformed}
use Rattle.desk_text.specs.HeldLine.{held_means}
use Rattle.write_lines.proofs.Sinks.{nothing_put}
use Rattle.desk_line.proofs.reply.Goals as goal

pub returns-in-Skipped : goal.returns-in-Skipped
returns-in-Skipped c =
    let a = c.args in
    rw (sym c.meaning.ensures ∙ c.in-Skipped.is) (record {
      after = λ i. record { list = a.desk.list; ordinal = a.desk.ordinal; held = c.no_line.ensures i };
      answered = sym (nothing_put a.out.now);
      told = sym (nothing_put a.words.now);
      short = (omega arith, omega arith);
    })

pub returns-in-Malformed : goal.returns-in-Malformed
returns-in-Malformed c =
    let malformed : held_means c.args.held ≡ Malformed = sym c.meaning.ensures ∙ c.in-Malformed.is in
    rw malformed (rw c.slip_of.ensures at c.reply_to_malformed.ensures)

pub returns-in-Given : goal.returns-in-Given
returns-in-Given c = rw (sym c.meaning.ensures ∙ c.in-Given.is) c.reply_to_event.ensures
