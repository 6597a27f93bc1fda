-- A line that is held has no LF.
use Rattle.std.proofs.Common.{refl, sym, arith}
use borrow.Author.Tests.{eq-eqb, ne_eqb}
use Rattle.desk_text.specs.Desk.{desk_at_end, out_at_end, told_at_end}
use Rattle.write_lines.proofs.Sinks.{nothing_put}
use Rattle.desk_line.proofs.reply_to_held.Goals as goal

pub returns-then-desk-eq0 : goal.returns-then-desk-eq0
unfolding desk_at_end out_at_end told_at_end
returns-then-desk-eq0 c =
    let a = c.args in
    rw (eq-eqb a.desk.held.count 0 c.if-desk-eq0.true)
    (record { after = refl; answered = sym (nothing_put a.out.now); told = sym (nothing_put a.words.now); short = (omega arith, omega arith) })

pub returns : goal.returns
unfolding desk_at_end out_at_end told_at_end
returns c = rw (ne_eqb c.args.desk.held.count 0 c.if-desk-eq0.false) c.reply_to_malformed.ensures
