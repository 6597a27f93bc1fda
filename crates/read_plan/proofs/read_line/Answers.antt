-- The line is refused for its form or for its record, or it is taken.
use Rattle.std.proofs.Common.{◌≡◌, sym, ap, subst, ◌∙◌}
use Rattle.std.specs.Prelude.{OnOk}
use Rattle.std.proofs.lemmas.Result.{err_from_is_err_and}
use Rattle.plan_text.specs.Lines.{Line}
use Rattle.plan_text.specs.Draft.{draft_after}
use Rattle.plan_text.specs.ReaderInternals.{narrowed}
use Rattle.plan_text.specs.declared.Record.{Record}
use Rattle.plan_text.proofs.FirstFailure.{nothing_written}
use Rattle.read_draft.specs.Drafted.{drafted}
use Rattle.read_plan.proofs.Line.{some_record, none_record, form_refuses, formed, record_handed, none_handed}
use Rattle.read_plan.proofs.read_line.Goals as goal

pub returns-in_err-rec-clause-answer : goal.returns-in_err-rec-clause-answer
returns-in_err-rec-clause-answer c =
    let a = c.args in
    let l : Line = record { bytes = a.line.bytes.now; ended = a.line.ended } in
    let p = err_from_is_err_and c.from_residual.result c.from_residual.ensures.1 in
    rw (p.1, p.2) (form_refuses (drafted a.draft.now) l _ c.in_err-rec.ensures)

pub returns-in_default-clause-answer : goal.returns-in_default-clause-answer
returns-in_default-clause-answer c =
    let a = c.args in
    let l : Line = record { bytes = a.line.bytes.now; ended = a.line.ended } in
    let d = drafted a.draft.now in
    none_handed d l _ c.in_ok-rec.ensures (none_record l.bytes (sym c.in_default.is ∙ formed d l _ c.in_ok-rec.ensures))

pub returns-in_default-clause-written : goal.returns-in_default-clause-written
returns-in_default-clause-written c =
    let a = c.args in
    let l : Line = record { bytes = a.line.bytes.now; ended = a.line.ended } in
    let d = drafted a.draft.now in
    let none = none_record l.bytes (sym c.in_default.is ∙ formed d l _ c.in_ok-rec.ensures) in
    sym (ap (λ (r : Record). draft_after d (narrowed r)) none ∙ nothing_written d)

pub returns-clause-answer : goal.returns-clause-answer
returns-clause-answer c =
    let a = c.args in
    let l : Line = record { bytes = a.line.bytes.now; ended = a.line.ended } in
    let d = drafted a.draft.now in
    let same = some_record l.bytes c.in-Some.rec (sym c.in-Some.is ∙ formed d l _ c.in_ok-rec.ensures) in
    record_handed d l _ c.in_ok-rec.ensures c.in-Some.rec same _ c.try_write.ensures.answer

pub returns-clause-written : goal.returns-clause-written
returns-clause-written c =
    let a = c.args in
    let l : Line = record { bytes = a.line.bytes.now; ended = a.line.ended } in
    let d = drafted a.draft.now in
    let same = some_record l.bytes c.in-Some.rec (sym c.in-Some.is ∙ formed d l _ c.in_ok-rec.ensures) in
    subst (λ (r : Record). OnOk c.try_write.result (drafted c.try_write.new.self ≡ draft_after d (narrowed r))) same c.try_write.ensures.written
