-- A turn replies to its line where its LF is there, and else holds it.
use Rattle.std.proofs.Common.{true, false, ap, sym, ◌∙◌, arith}
use Rattle.plan_bytes.specs.Over.{plan_of}
use Rattle.read_lines.specs.declared.LineReader.{LineReader}
use Rattle.write_lines.proofs.Sinks.{nothing_put}
use Rattle.desk_read.proofs.Turns.{none_answered, turn, all_after, all_put, all_said, all_short}
use Rattle.desk_read.proofs.reply_to_lines.Goals as goal

pub loop-line-init : goal.loop-line-init
loop-line-init c =
    let a = c.args in
    let r = c.into_iter-line-iterator.ensures.into_iter_gives ∙ c.new-line-items.ensures in
    none_answered (plan_of a.plan) a.start a.read.now a.out.now a.words.now c.into_iter-line-iterator.result (ap (λ (x : LineReader). x.text.now) r)
    (ap (λ (x : LineReader). x.at) r)

pub loop-line-preserved-then-line : goal.loop-line-preserved-then-line
loop-line-preserved-then-line c =
    let a = c.args in
    let l = c.loop-line in
    let w = rw c.hold-held.ensures at c.reply-desk.ensures in
    turn (plan_of a.plan) a.start a.read.now a.out.now a.words.now l.desk l.line-iterator l.out l.words l.invariant c.in-Some.line c.next.new.self
    c.in-Some.ensures.steps true c.if-line.true c.reply-desk.result c.reply-desk.new.out c.reply-desk.new.words w.after w.answered w.told w.short.0 w.short.1

pub loop-line-preserved : goal.loop-line-preserved
loop-line-preserved c =
    let a = c.args in
    let l = c.loop-line in
    turn (plan_of a.plan) a.start a.read.now a.out.now a.words.now l.desk l.line-iterator l.out l.words l.invariant c.in-Some.line c.next.new.self
    c.in-Some.ensures.steps false c.if-line.false _ l.out l.words (λ i. record { list = l.desk.list; ordinal = l.desk.ordinal; held = c.hold-held.ensures i })
    (sym (nothing_put l.out)) (sym (nothing_put l.words)) (omega arith) (omega arith)

pub returns : goal.returns
returns c =
    let a = c.args in
    let l = c.loop-line in
    let end = c.in-None.ensures.steps in
    let short = all_short (plan_of a.plan) a.start a.read.now a.out.now a.words.now l.desk l.line-iterator l.out l.words l.invariant c.next.new.self end in
    record {
      after = all_after (plan_of a.plan) a.start a.read.now a.out.now a.words.now l.desk l.line-iterator l.out l.words l.invariant c.next.new.self end;
      answered = all_put (plan_of a.plan) a.start a.read.now a.out.now a.words.now l.desk l.line-iterator l.out l.words l.invariant c.next.new.self end;
      told = all_said (plan_of a.plan) a.start a.read.now a.out.now a.words.now l.desk l.line-iterator l.out l.words l.invariant c.next.new.self end;
      out_short = short.0;
      told_short = short.1;
    }
