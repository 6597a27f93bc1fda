-- Each turn puts the records of one row more.
use Rattle.std.proofs.Common.{ℕ, ◌*◌, ◌≡◌, ◌≤◌, List, length}
use Rattle.model.specs.declared.Plan.{Plan}
use Rattle.plan_bytes.specs.Over.{plan_of}
use Rattle.plan_text.specs.declared.Record.{Record}
use Rattle.canonical_text.specs.CanonicalText.{list_to, type_weights, text_of}
use Rattle.write_lines.specs.Sink.{with_text}
use Rattle.write_stages.proofs.put_weights.Given as goal

abbrev pub row_of : Plan → ℕ → List Record
row_of p w = list_to p.types (type_weights p w)

abbrev pub invariant-loop-w : goal.invariant-loop-w
invariant-loop-w l =
    let f = row_of (plan_of l.fn.plan) in
    record { put : l.out ≡ with_text (text_of (list_to l.w f)) l.fn.out; short : length (text_of (list_to l.w f)) ≤ 12846891424439250 * l.w }
