-- Each turn puts the records of one stage more.
use Rattle.std.proofs.Common.{ℕ, ◌≡◌, ◌≤◌, ◌+◌, ◌-◌, ◌*◌, List, Option, length}
use Rattle.plan_text.specs.declared.Record.{Record}
use Rattle.canonical_text.specs.CanonicalText.{list_to, text_of}
use Rattle.write_lines.specs.Sink.{with_text}
use Rattle.write_stages.specs.StageRecords.{stage_read, stage_records}
use Rattle.write_stages.proofs.put_type.Given as goal

abbrev pub own : List ℕ → ℕ → Option ℕ → ℕ → ℕ → ℕ → List Record
own stages resources row kind first k = stage_records resources row kind k (stage_read stages (first + (k - 1)))

abbrev pub invariant-loop-k : goal.invariant-loop-k
invariant-loop-k l =
    let f = own l.fn.plan.stages.now l.fn.plan.frame.now.resources l.fn.row l.kind l.first in
    record { put : l.out ≡ with_text (text_of (list_to l.k f)) l.fn.out; short : length (text_of (list_to l.k f)) ≤ 11730 * l.k }
