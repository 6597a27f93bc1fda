-- At the head of each turn the lines before it are answered.
use Rattle.plan_bytes.specs.Over.{plan_of}
use Rattle.moves_run.proofs.Turn.{Answered}
use Rattle.moves_run.proofs.put_replies.Given as goal

abbrev pub invariant-loop-line : goal.invariant-loop-line
invariant-loop-line l = Answered (plan_of l.plan) l.events l.initial.out l.table.list l.ordinal l.line-iterator l.out
