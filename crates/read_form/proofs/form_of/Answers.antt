-- Each return has the first question that the line does not meet.
use Rattle.std.proofs.Common.{ℕ, sym, ap, ◌∙◌, length}
use Rattle.std.specs.Prelude.{Ok, Some}
use Rattle.plan_text.specs.Records.{layout_of, record_with}
use Rattle.plan_text.specs.Reading.{follows}
use Rattle.plan_text.specs.declared.Fields.{Fields}
use Rattle.read_form.proofs.Letter.{section_in}
use Rattle.read_form.proofs.Forms.{given_fields, bad_letter, bad_fields, no_fields, well_formed}
use Rattle.read_form.proofs.form_of.Goals as goal

pub returns-then-not-follows : goal.returns-then-not-follows
returns-then-not-follows c =
    let a = c.args in
    bad_letter a.last a.line.now a.ended (sym c.if-not-is_well_formed.ensures) (sym c.if-is_skipped.ensures)
    (ap (follows a.last) (sym c.section_of-section.ensures) ∙ sym c.if-not-follows.ensures)

pub returns-in_default : goal.returns-in_default
returns-in_default c =
    let a = c.args in
    no_fields a.last a.line.now a.ended (sym c.if-not-is_well_formed.ensures) (sym c.if-is_skipped.ensures)
    (ap (follows a.last) (sym c.section_of-section.ensures) ∙ sym c.if-not-follows.ensures)
    _ c.in_default.ensures

pub returns-then-fields-field_count : goal.returns-then-fields-field_count
returns-then-fields-field_count c =
    let a = c.args in
    let section = c.section_of-section.ensures in
    let due = c.field_count.ensures ∙ ap (λ s. length (layout_of s)) section in
    let given = given_fields a.line.now c.in-Ok.fields c.in-Ok.ensures in
    bad_fields a.last a.line.now a.ended (sym c.if-not-is_well_formed.ensures) (sym c.if-is_skipped.ensures)
    (ap (follows a.last) (sym section) ∙ sym c.if-not-follows.ensures)
    (λ e. c.if-fields-field_count.true (ap (λ (fs : Fields). fs.count) given ∙ e ∙ sym due))

pub returns : goal.returns
returns c =
    let a = c.args in
    let section = c.section_of-section.ensures in
    let due = c.field_count.ensures ∙ ap (λ s. length (layout_of s)) section in
    let given = given_fields a.line.now c.in-Ok.fields c.in-Ok.ensures in
    let met = sym (ap (λ (fs : Fields). fs.count) given) ∙ c.if-fields-field_count.false ∙ due in
    let read =
    c.record_with.ensures
    ∙ ap (λ (s : ℕ). record_with s c.in-Ok.fields.numbers) section
    ∙ ap (λ (fs : Fields). record_with (section_in a.line.now) fs.numbers) given in
    ap (λ r. Ok (Some r)) read
    ∙ well_formed a.last a.line.now a.ended (sym c.if-not-is_well_formed.ensures) (sym c.if-is_skipped.ensures)
    (ap (follows a.last) (sym section) ∙ sym c.if-not-follows.ensures) met
