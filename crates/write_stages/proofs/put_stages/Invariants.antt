-- Each turn puts the records of one type more, whose stages begin behind those of the types before it.
use Rattle.std.proofs.Common.{◌*◌, ◌≡◌, ◌≤◌, length}
use Rattle.model.specs.Numbers.{at, sum_to}
use Rattle.plan_bytes.specs.Over.{plan_of}
use Rattle.canonical_text.specs.CanonicalText.{list_to, text_of}
use Rattle.write_lines.specs.Sink.{with_text}
use Rattle.write_stages.specs.StageRecords.{type_records}
use Rattle.write_stages.proofs.put_stages.Given as goal

abbrev pub invariant-loop-t : goal.invariant-loop-t
invariant-loop-t l =
    record {
      put : l.out ≡ with_text (text_of (list_to l.t (type_records (plan_of l.fn.plan) l.fn.row))) l.fn.out;
      short : length (text_of (list_to l.t (type_records (plan_of l.fn.plan) l.fn.row))) ≤ 50379966370350 * l.t;
      begins : l.first ≡ sum_to l.t (at l.fn.plan.frame.now.lengths);
      few : l.first ≤ 4294967295 * l.t;
    }
