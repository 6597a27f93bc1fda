-- The bytes so far are shown.
use Rattle.std.proofs.Common.{◌≡◌, ◌≤◌, map, length, take}
use Rattle.told_text.specs.PlanMessage.{visible}
use Rattle.write_lines.specs.Sink.{with_text}
use Rattle.tell_line.proofs.put_visible.Given as goal

abbrev pub invariant-loop-b : goal.invariant-loop-b
invariant-loop-b l = l.out ≡ with_text (map visible (take l.b-index l.part)) l.initial.out
