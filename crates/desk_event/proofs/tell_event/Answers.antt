-- Nothing is said of an admitted event; of another, its line with the excess of its row.
use Rattle.std.proofs.Common.{ℕ, ◌≡◌, ◌≤◌, List, [], refl, sym, ap, subst, ◌∙◌, arith, length}
use borrow.Author.Tests.{eq-eqb, ne_eqb}
use Rattle.model.specs.declared.Plan.{Plan}
use Rattle.events.specs.Events.{answer, answer_numbers}
use Rattle.events.specs.declared.JobList.{JobList}
use Rattle.events.specs.declared.Event.{Event}
use Rattle.plan_bytes.specs.Over.{plan_of}
use Rattle.told_text.specs.EventMessage.{excess_after, event_place, told_line, event_message}
use Rattle.write_lines.specs.Sink.{with_text}
use Rattle.write_lines.proofs.Sinks.{nothing_put}
use Rattle.desk_event.proofs.tell_event.Goals as goal

module _ (p : Plan) (t : JobList) (ordinal : ℕ) (e : Event) (number place : ℕ) (says : (number, place) ≡ answer_numbers (answer p t e)) where
  admitted_told : number ≡ 0 → [] ≡ event_message p t ordinal e
  unfolding event_message
  admitted_told admitted = rw (sym says, eq-eqb number 0 admitted) refl

  -- the line of a refusal
  refused_told : (excess : ℕ) → (¬ (number ≡ 0)) → excess ≡ excess_after p t e place
      → told_line ordinal number (event_place number place excess) ≡ event_message p t ordinal e
  unfolding event_message
  refused_told excess refused x = rw (sym says, ne_eqb number 0 refused, sym x) refl

pub returns-then-number-eq0 : goal.returns-then-number-eq0
returns-then-number-eq0 c =
    let a = c.args in
    let told = admitted_told (plan_of a.plan) a.desk.list a.desk.ordinal a.event a.number a.place c.requires c.if-number-eq0.true in
    record {
      told = sym (nothing_put a.words.now) ∙ ap (λ bs. with_text bs a.words.now) told;
      short = subst (λ (bs : List ℕ). length bs ≤ 192) told (omega arith);
    }

pub returns : goal.returns
returns c =
    let a = c.args in
    let excess = c.excess_after-excess.result in
    let told = refused_told (plan_of a.plan) a.desk.list a.desk.ordinal a.event a.number a.place c.requires excess c.if-number-eq0.false c.excess_after-excess.ensures in
    record {
      told = c.put_event_message.ensures.value ∙ ap (λ bs. with_text bs a.words.now) told;
      short = subst (λ (bs : List ℕ). length bs ≤ 192) told c.put_event_message.ensures.upper_bound;
    }
