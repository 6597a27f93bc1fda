-- The outcome is that of the table that was lent: its number and place are put, and told of if it is a refusal.
use Rattle.std.proofs.Common.{ℕ, ◌≡◌, ◌≤◌, List, ap, subst, ◌∙◌, length}
use Rattle.events.specs.Events.{answer_numbers}
use Rattle.admission.specs.declared.Outcome.{Outcome}
use Rattle.plan_bytes.specs.Over.{plan_of}
use Rattle.moves_text.specs.OutputLines.{event_line}
use Rattle.desk_text.specs.Desk.{desk_with, event_out}
use Rattle.write_lines.specs.Sink.{with_text}
use Rattle.desk_event.proofs.reply_to_event.Goals as goal

pub tell_event-requires : goal.tell_event-requires
tell_event-requires c =
    let number = c.answer_number-number.ensures ∙ ap (λ (o : Outcome). (answer_numbers o.answer).0) c.handle_lent-outcome.ensures in
    let place = c.answer_place-place.ensures ∙ ap (λ (o : Outcome). (answer_numbers o.answer).1) c.handle_lent-outcome.ensures in
    λ i. (number i, place i)

pub returns : goal.returns
returns c =
    let a = c.args in
    let o = c.handle_lent-outcome in
    let number = c.answer_number-number.ensures ∙ ap (λ (o : Outcome). (answer_numbers o.answer).0) o.ensures in
    let place = c.answer_place-place.ensures ∙ ap (λ (o : Outcome). (answer_numbers o.answer).1) o.ensures in
    let after = ap (λ (o : Outcome). o.table.list) o.ensures in
    let line : event_line a.desk.ordinal c.answer_number-number.result c.answer_place-place.result o.result.table.list.count ≡ event_out (plan_of a.plan) a.desk a.event =
    λ i. event_line a.desk.ordinal (number i) (place i) (after i).count in
    record {
      after = c.next_desk.ensures ∙ ap (λ l. desk_with l a.desk.ordinal) after;
      answered = c.put_event_line.ensures.value ∙ ap (λ bs. with_text bs a.out.now) line;
      told = c.tell_event.ensures.told;
      short = (subst (λ (bs : List ℕ). length bs ≤ 84) line c.put_event_line.ensures.upper_bound, c.tell_event.ensures.short);
    }
