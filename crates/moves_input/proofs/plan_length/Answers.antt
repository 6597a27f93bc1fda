use Rattle.std.proofs.Common.{◌≡◌, ◌≤◌, ℕ, List, length, sym, ap, ◌∙◌, refl, arith}
use Rattle.std.specs.Borrow.{Bor}
use Rattle.moves_text.specs.Division.{plan_length}
use Rattle.read_lines.specs.declared.LineReader.{LineReader}
use Rattle.moves_input.proofs.PlanEnd.{plan_from, plan_from_start, still, within, plan_ends, plan_goes_on, plan_out}
use Rattle.moves_input.proofs.plan_length.Goals as goal

-- the reader stands at the offset, in the input
module _ (input : List ℕ) (at : ℕ) (r : LineReader) (text : r.text.now ≡ input) (stands : r.at ≡ at) (same : plan_length input ≡ plan_from input at) where
  told : plan_length input ≡ plan_from r.text.now r.at
  told = same ∙ ap (plan_from input) (sym stands) ∙ ap (λ (xs : List ℕ). plan_from xs r.at) (sym text)

pub loop-line-init : goal.loop-line-init
loop-line-init c =
    let new = c.new-reader.ensures in
    record {
      text = ap (λ (r : LineReader). r.text.now) new;
      stands = ap (λ (r : LineReader). r.at) new;
      within = omega arith;
      same = plan_from_start c.args.input.now;
    }

pub returns-then-is_mark : goal.returns-then-is_mark
returns-then-is_mark c =
    let l = c.loop-line in
    let i = l.invariant in
    sym (told c.args.input.now l.at l.reader i.text i.stands i.same
    ∙ plan_ends l.reader c.next.new.self c.in-Some.line c.in-Some.ensures.steps (sym c.if-is_mark.ensures)
    ∙ i.stands)

pub loop-line-preserved : goal.loop-line-preserved
loop-line-preserved c =
    let l = c.loop-line in
    let i = l.invariant in
    let after = c.next.new.self in
    let read = c.in-Some.ensures.steps in
    let text : after.text.now ≡ c.args.input.now = ap (λ (b : Bor (List ℕ)). b.now) (still l.reader after c.in-Some.line read) ∙ i.text in
    record {
      text = text;
      stands = refl;
      within = omega (arith, within l.reader after c.in-Some.line read, ap length i.text);
      same =
          told c.args.input.now l.at l.reader i.text i.stands i.same
          ∙ plan_goes_on l.reader after c.in-Some.line read (sym c.if-is_mark.ensures)
          ∙ ap (λ (xs : List ℕ). plan_from xs after.at) i.text;
    }

pub returns : goal.returns
returns c =
    let l = c.loop-line in
    let i = l.invariant in
    let most : l.reader.at ≤ length l.reader.text.now = omega (arith, ap length i.text) in
    sym (told c.args.input.now l.at l.reader i.text i.stands i.same
    ∙ plan_out l.reader c.next.new.self c.in_default.ensures.steps most
    ∙ ap length i.text)
