-- Four sections behind the first three.
use Rattle.std.proofs.Common.{ap, ◌∙◌}
use Rattle.plan_bytes.specs.Over.{plan_read, plan_over}
use Rattle.canonical_text.specs.CanonicalText.{section_records, text_of, canonical_text}
use Rattle.write_lines.specs.Sink.{with_text}
use Rattle.write_record.proofs.RecordsPut.{records_more}
use Rattle.write_plan.proofs.put_canonical.Goals as goal

pub returns : goal.returns
unfolding canonical_text plan_over plan_read
returns c =
    let a = c.args in
    let s = a.out.now in
    let own = section_records (plan_over a.plan.frame.now a.plan.stages.now) in
    rw (c.put_entries.ensures.value, c.put_weights.ensures.value, c.put_bounds.ensures.value, c.put_demands.ensures.value, c.put_lists.ensures, c.records_of.ensures)
    (rw (c.from-resources.ensures, c.from-rows.ensures)
    (ap (λ t. with_text (text_of (own 7)) (with_text (text_of (own 6)) (with_text (text_of (own 5)) t))) (records_more own 3 s)
    ∙ ap (λ t. with_text (text_of (own 7)) (with_text (text_of (own 6)) t)) (records_more own 4 s)
    ∙ ap (with_text (text_of (own 7))) (records_more own 5 s)
    ∙ records_more own 6 s))
