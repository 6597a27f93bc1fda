-- A turn answers its line, where it is counted, and puts what it is answered behind what is put.
use Rattle.std.proofs.Common.{◌≡◌, refl, ap, ◌∙◌}
use mathlib.Core.Option.{none, some}
use Rattle.events.specs.Events.{list_after, answer_numbers}
use Rattle.admission.specs.declared.Table.{Table}
use Rattle.admission.specs.declared.Outcome.{Outcome}
use Rattle.plan_bytes.specs.Over.{plan_of}
use Rattle.read_lines.specs.declared.LineReader.{LineReader}
use Rattle.moves_text.specs.OutputLines.{event_line}
use Rattle.moves_text.specs.declared.EventLine.TheVariants.{Malformed, Given}
use Rattle.moves_run.proofs.Turn.{none_answered, passed, answered, all_put}
use Rattle.moves_run.proofs.put_replies.Goals as goal

pub loop-line-init : goal.loop-line-init
loop-line-init c =
    let a = c.args in
    let r = c.into_iter-line-iterator.ensures.into_iter_gives ∙ c.new-line-items.ensures in
    rw (ap (λ (t : Table). t.list) c.empty-table.ensures)
    (none_answered (plan_of a.plan) a.events.now a.out.now c.into_iter-line-iterator.result (ap (λ (x : LineReader). x.text.now) r) (ap (λ (x : LineReader). x.at) r))

pub loop-line-preserved-in-Skipped : goal.loop-line-preserved-in-Skipped
loop-line-preserved-in-Skipped c =
    let a = c.args in
    let l = c.loop-line in
    passed (plan_of a.plan) a.events.now a.out.now l.table.list l.ordinal l.line-iterator l.out l.invariant c.in-Some.line c.next.new.self
    c.in-Some.ensures.steps c.event_of.result c.event_of.ensures c.in-Skipped.is

pub loop-line-preserved-in-Malformed : goal.loop-line-preserved-in-Malformed
loop-line-preserved-in-Malformed c =
    let a = c.args in
    let l = c.loop-line in
    answered (plan_of a.plan) a.events.now a.out.now l.table.list l.ordinal l.line-iterator l.out l.invariant c.in-Some.line c.next.new.self
    c.in-Some.ensures.steps c.event_of.result c.event_of.ensures
    Malformed none c.in-Malformed.is (λ ls. refl) l.table.list refl _ refl _ c.put_event_line.ensures.value

pub loop-line-preserved : goal.loop-line-preserved
loop-line-preserved c =
    let a = c.args in
    let l = c.loop-line in
    let event = c.in-Given.event in
    let outcome = c.handle-outcome.ensures in
    let after : c.handle-outcome.result.table.list ≡ list_after (plan_of a.plan) l.table.list event = ap (λ (o : Outcome). o.table.list) outcome in
    let number = c.answer_number-number.ensures ∙ ap (λ (o : Outcome). (answer_numbers o.answer).0) outcome in
    let place = c.answer_place-place.ensures ∙ ap (λ (o : Outcome). (answer_numbers o.answer).1) outcome in
    answered (plan_of a.plan) a.events.now a.out.now l.table.list l.ordinal l.line-iterator l.out l.invariant c.in-Some.line c.next.new.self
    c.in-Some.ensures.steps c.event_of.result c.event_of.ensures
    (Given event) (some event) c.in-Given.is (λ ls. refl) c.handle-outcome.result.table.list after _
    (λ i. event_line l.ordinal (number i) (place i) (after i).count) _ c.put_event_line-in-Given.ensures.value

pub returns : goal.returns
returns c =
    let a = c.args in
    let l = c.loop-line in
    all_put (plan_of a.plan) a.events.now a.out.now l.table.list l.ordinal l.line-iterator l.out l.invariant c.next.new.self c.in-None.ensures.steps
