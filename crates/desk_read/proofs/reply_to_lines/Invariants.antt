-- At the head of each turn the lines before it are answered.
use Rattle.plan_bytes.specs.Over.{plan_of}
use Rattle.desk_read.proofs.Turns.{Answered}
use Rattle.desk_read.proofs.reply_to_lines.Given as goal

abbrev pub invariant-loop-line : goal.invariant-loop-line
invariant-loop-line l = Answered (plan_of l.plan) l.initial.desk l.read l.initial.out l.initial.words l.desk l.line-iterator l.out l.words
