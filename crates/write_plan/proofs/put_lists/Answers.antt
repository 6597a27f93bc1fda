-- Three sections, one behind the other.
use Rattle.std.proofs.Common.{◌≡◌, [], ap, ◌∙◌}
use Rattle.plan_bytes.specs.Over.{plan_read}
use Rattle.plan_text.specs.Meaning.{C}
use Rattle.canonical_text.specs.CanonicalText.{record_text, section_records, text_of}
use Rattle.write_lines.specs.Sink.{with_text}
use Rattle.write_record.proofs.RecordsPut.{one_record, records_more}
use Rattle.write_plan.proofs.put_lists.Goals as goal

pub returns : goal.returns
unfolding plan_read
returns c =
    let f = c.args.frame.now in
    let s = c.args.out.now in
    let own = section_records (plan_read f []) in
    let counted =
    c.counts_of.ensures
    ∙ (λ i. C (c.from-resources.ensures i) (c.from-types.ensures i) (c.from-rows.ensures i)) in
    let counts : c.put_record.new.out ≡ with_text (text_of (own 1)) s =
    c.put_record.ensures.value ∙ ap (λ r. with_text (record_text r) s) counted ∙ ap (λ bs. with_text bs s) (one_record (C f.resources f.types f.rows)) in
    rw (c.put_entries-2.ensures.value, c.put_entries.ensures.value, counts, c.records_of.ensures, c.records_of-2.ensures, c.from-resources.ensures, c.from-types.ensures)
    (ap (with_text (text_of (own 3))) (records_more own 1 s) ∙ records_more own 2 s)
