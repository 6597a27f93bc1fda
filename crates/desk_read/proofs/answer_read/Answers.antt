-- The part is the first bytes of what was read, as many as the step takes: so the answers and the words are counted whole.
use Rattle.std.proofs.Common.{ℕ, ◌≡◌, ◌≤◌, ◌*◌, refl, ap, length, take, arith}
use Rattle.std.proofs.Math.ListN.{length-take}
use Rattle.plan_bytes.specs.Over.{plan_of}
use Rattle.desk_text.specs.Desk.{most_read, out_of_read, told_of_read}
use Rattle.write_lines.proofs.Sinks.{new_whole, same_lent}
use Rattle.desk_read.proofs.answer_read.Goals as goal

pub returns-clause-after : goal.returns-clause-after
returns-clause-after c =
    let part : c.part_of-read.result.now ≡ take 1024 c.args.input.now = c.part_of-read.ensures.bytes in rw part at c.reply_to_lines-after.ensures.after

pub returns-clause-answered : goal.returns-clause-answered
returns-clause-answered c =
    let a = c.args in
    let part : c.part_of-read.result.now ≡ take 1024 a.input.now = c.part_of-read.ensures.bytes in
    let w = rw part at c.reply_to_lines-after.ensures in
    let put = new_whole (out_of_read (plan_of a.plan) a.desk (take 1024 a.input.now)) _ _ refl w.answered (omega (arith, w.out_short, length-take 1024 a.input.now)) in
    let lent = same_lent _ _ _ w.answered in
    (put.0, grind arith)

pub returns-clause-told : goal.returns-clause-told
returns-clause-told c =
    let a = c.args in
    let part : c.part_of-read.result.now ≡ take 1024 a.input.now = c.part_of-read.ensures.bytes in
    let w = rw part at c.reply_to_lines-after.ensures in
    let put = new_whole (told_of_read (plan_of a.plan) a.desk (take 1024 a.input.now)) _ _ refl w.told (omega (arith, w.told_short, length-take 1024 a.input.now)) in
    let lent = same_lent _ _ _ w.told in
    (put.0, grind arith)

pub returns-clause-put_bound : goal.returns-clause-put_bound
returns-clause-put_bound c =
    let a = c.args in
    let part : c.part_of-read.result.now ≡ take 1024 a.input.now = c.part_of-read.ensures.bytes in
    let w = rw part at c.reply_to_lines-after.ensures in
    let few = length-take 1024 a.input.now in
    let out = new_whole (out_of_read (plan_of a.plan) a.desk (take 1024 a.input.now)) _ _ refl w.answered (omega (arith, w.out_short, few)) in
    let words = new_whole (told_of_read (plan_of a.plan) a.desk (take 1024 a.input.now)) _ _ refl w.told (omega (arith, w.told_short, few)) in
    (omega (arith, out.0, w.out_short, few), omega (arith, words.0, w.told_short, few))
