-- Each turn reads a line; what is left to read stays what was to be read.
use Rattle.std.proofs.Common.{ℕ, ◌+◌, List, length, refl, sym, ap, subst, ◌∙◌}
use Rattle.plan_text.specs.Lines.{lines_of}
use Rattle.plan_text.specs.Draft.{Draft, empty_draft}
use Rattle.plan_text.specs.Reading.{refused, read_from}
use Rattle.read_lines.specs.declared.LineReader.{LineReader}
use Rattle.read_draft.specs.Drafted.{drafted}
use Rattle.read_plan.proofs.Going.{ReadingOn, reading_start, read_out, still, line_refuses, line_goes_on, text_out}
use Rattle.read_plan.proofs.read_lines.Goals as goal

pub loop-next-init : goal.loop-next-init
loop-next-init c =
    let new = c.new-reader.ensures in
    let start = subst (λ (d : Draft). ReadingOn c.args.text.now d 0 0) (sym c.empty-draft.ensures) (reading_start c.args.text.now) in
    record {
      text = ap (λ (r : LineReader). r.text.now) new;
      stands = ap (λ (r : LineReader). r.at) new;
      going = subst (λ (r : LineReader). ReadingOn r.text.now (drafted c.empty-draft.result) 0 r.at) (sym new) start;
    }

pub returns-in-Err : goal.returns-in-Err
returns-in-Err c =
    let l = c.loop-next in
    let i = l.invariant in
    let a = c.in-Err.answer in
    let size = length c.in-Some.next.bytes.now in
    c.refusal.ensures
    ∙ ap (λ (at : ℕ). refused a (l.line + 1) at (at + size)) (sym i.stands)
    ∙ line_refuses l.reader c.next.new.self c.in-Some.next c.in-Some.ensures.steps (drafted l.draft) l.line i.going a c.in-Err.ensures.answer
    ∙ ap (λ (xs : List ℕ). read_from 0 0 empty_draft (lines_of xs)) i.text

pub loop-next-preserved : goal.loop-next-preserved
loop-next-preserved c =
    let l = c.loop-next in
    let i = l.invariant in
    let read = c.in-Some.ensures.steps in
    record {
      text = still l.reader c.next.new.self c.in-Some.next read (drafted l.draft) l.line i.going ∙ i.text;
      stands = refl;
      going =
          line_goes_on l.reader c.next.new.self c.in-Some.next read (drafted l.draft) l.line i.going c.in_default-read_line.ensures.answer (drafted c.read_line.new.draft)
          c.in_default-read_line.ensures.written;
    }

pub returns : goal.returns
returns c =
    let l = c.loop-next in
    let i = l.invariant in
    let r = l.reader in
    c.finished.ensures
    ∙ read_out r.text.now (drafted l.draft) l.line r.at i.going (text_out r c.next.new.self c.in_default.ensures.steps)
    ∙ ap (λ (xs : List ℕ). read_from 0 0 empty_draft (lines_of xs)) i.text
