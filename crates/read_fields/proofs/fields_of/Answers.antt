-- What is left to read from a tab on, after the numbers at hand, is what was to be read at the start.
use Rattle.std.proofs.Common.{◌≡◌, ℕ, ◌+◌, ◌-◌, ◌<◌, List, ◌∷◌, length, take, drop, sym, ap, ◌∙◌, arith}
use Rattle.std.proofs.lemmas.Result.{err_from_is_err_and}
use Rattle.plan_text.specs.Lines.{columns, fields_in}
use Rattle.plan_text.specs.RecordTests.{fields_on, fields_read}
use Rattle.plan_text.specs.ReaderInternals.{fields_given}
use Rattle.read_fields.proofs.FieldByField.{TabFound, fields_after, first_tab, next_tab, field_refused, field_fifth, field_next}
use Rattle.read_fields.proofs.fields_of.Goals as goal

-- the field between two tabs
abbrev field : List ℕ → ℕ → ℕ → List ℕ
field line at end = take (end - (at + 1)) (drop (at + 1) line)

-- what is left to read before it is read
left : (line : List ℕ) (at end count : ℕ) (numbers : List ℕ) → fields_read (fields_in (columns line)) ≡ fields_on count numbers (fields_after line at)
    → at < length line → TabFound line (at + 1) end → fields_read (fields_in (columns line)) ≡ fields_on count numbers (field line at end ∷ fields_after line end)
left line at end count numbers same within found = same ∙ ap (fields_on count numbers) (next_tab line at end within found)

pub loop-at-init : goal.loop-at-init
loop-at-init c =
    record { within = c.find-at.ensures.within (omega arith); few = omega arith; same = ap fields_read (first_tab c.args.line.now c.find-at.result c.find-at.ensures.first) }

pub returns-in_err-x : goal.returns-in_err-x
returns-in_err-x c =
    let line = c.args.line.now in
    let k = c.loop-at in
    let end = c.find-end.result in
    let p = err_from_is_err_and c.from_residual.result c.from_residual.ensures.1 in
    rw (p.1, p.2)
    (field_refused k.count k.numbers (field line k.at end) (fields_after line end) c.value_read.result c.value_read.ensures _ c.in_err-x.ensures.value
    ∙ sym (ap fields_given (left line k.at end k.count k.numbers k.invariant.same c.loop-at-test.true c.find-end.ensures.first)))

pub returns-then-count-eq4 : goal.returns-then-count-eq4
returns-then-count-eq4 c =
    let line = c.args.line.now in
    let k = c.loop-at in
    let end = c.find-end.result in
    sym (ap fields_given (left line k.at end k.count k.numbers k.invariant.same c.loop-at-test.true c.find-end.ensures.first)
    ∙ field_fifth k.count k.numbers (field line k.at end) (fields_after line end) c.if-count-eq4.true)

pub loop-at-preserved : goal.loop-at-preserved
loop-at-preserved c =
    let line = c.args.line.now in
    let k = c.loop-at in
    let end = c.find-end.result in
    let few : k.count < 4 = omega arith in
    record {
      within = c.find-end.ensures.within (omega arith);
      few = omega arith;
      same =
          left line k.at end k.count k.numbers k.invariant.same c.loop-at-test.true c.find-end.ensures.first
          ∙ field_next k.count k.numbers (field line k.at end) (fields_after line end) c.in_ok-x.x (sym c.value_read.ensures ∙ c.in_ok-x.ensures.ok_part) few;
    }
