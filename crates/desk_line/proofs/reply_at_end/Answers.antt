-- A line of answers and a line of words are short, so both are counted whole.
use Rattle.std.proofs.Common.{refl, arith}
use Rattle.desk_text.specs.Desk.{out_at_end, told_at_end}
use Rattle.write_lines.proofs.Sinks.{new_whole, same_lent}
use Rattle.desk_line.proofs.reply_at_end.Goals as goal

pub returns-clause-answered : goal.returns-clause-answered
returns-clause-answered c =
    let w = c.reply_to_held-after.ensures in
    let put = new_whole (out_at_end c.args.desk) _ _ refl w.answered (omega (arith, w.short.0)) in
    let lent = same_lent _ _ _ w.answered in
    (put.0, grind arith)

pub returns-clause-told : goal.returns-clause-told
returns-clause-told c =
    let w = c.reply_to_held-after.ensures in
    let put = new_whole (told_at_end c.args.desk) _ _ refl w.told (omega (arith, w.short.1)) in
    let lent = same_lent _ _ _ w.told in
    (put.0, grind arith)
