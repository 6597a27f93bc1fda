-- An event is answered by the plan and the list in the bytes, whose jobs the numbers are. A refusal leaves them; an admitted one writes the list that
-- it leads to.
use Rattle.std.proofs.Common.{ℕ, List, ◌≡◌, ◌≤◌, length, sym, ap, ◌∙◌, arith}
use Rattle.events.specs.Events.{answer_numbers, list_outcome}
use Rattle.std.specs.Prelude.{Result, Err, is_ok}
use Rattle.events.specs.declared.Answer.{Answer}
use Rattle.events.specs.declared.Event.{Event}
use Rattle.events.specs.declared.ListOutcome.{ListOutcome}
use Rattle.events.specs.declared.Answer.TheVariants.{Admitted}
use Rattle.internals.proofs.QuestionParts.{is_admitted_lem}
use Rattle.plan_bytes.specs.Over.{plan_over}
use Rattle.plan_bytes.specs.declared.Frame.{Frame}
use Rattle.internals.specs.JobNumbers.{jobs_laid, list_over, applied, Judges}
use Rattle.internals.specs.declared.Change.{Change}
use Rattle.cell_layout.specs.Layout.{cell_size, part_in, stages_part, frame_in, plan_in, list_in, with_list}
use Rattle.cell_layout.specs.HostAnswers.{packed, packed_answer, cell_answer}
use Rattle.cell_layout.proofs.Lent.{lent_in}
use Rattle.cell_layout.proofs.HostAnswers.{no_event, event_refused, event_admitted}
use Rattle.cell_events.proofs.event_at.Goals as goal

-- what is judged by the frame and the numbers read is what the plan and the list in the bytes lead to
judged_in : (bytes : List ℕ) → cell_size ≤ length bytes → (event : Event) (xs : List ℕ) (j : Result Change Answer) {f : Frame} {count : ℕ} → f ≡ frame_in bytes
    → count ≡ (list_in bytes).count → jobs_laid xs ≡ (list_in bytes).jobs
    → Judges (plan_over f (part_in stages_part bytes)) (list_over count xs) event j
    → Judges (plan_in bytes) (list_in bytes) event j
judged_in bytes room event xs j {count = count} frame counted jobs judged =
    let list : list_over count xs ≡ list_in bytes = λ i. record { count = counted i; jobs = jobs i } in
    rw (list, lent_in bytes room frame) at judged

pub returns-then-cell-lt-CELL : goal.returns-then-cell-lt-CELL
returns-then-cell-lt-CELL c = let a = c.args in no_event a.cell.now (omega arith) a.event

pub returns-in-Err : goal.returns-in-Err
returns-in-Err c =
    let bytes = c.args.cell.now in
    let event = c.args.event in
    let room : cell_size ≤ length bytes = omega arith in
    let told =
    judged_in bytes room event c.jobs_in-numbers.result c.judge-judged.result c.frame_in-frame.ensures c.count_in-count.ensures c.jobs_in-numbers.ensures c.judge-judged.ensures in
    let a = c.in-Err.answer in
    let led : applied (list_in bytes) (Err a) ≡ list_outcome (plan_in bytes) (list_in bytes) event = ap (applied (list_in bytes)) (sym c.in-Err.is) ∙ told.outcome in
    let answered : a ≡ cell_answer bytes event = ap (λ (o : ListOutcome). o.answer) led in
    let law = event_refused bytes room event (sym told.admitted ∙ ap is_ok c.in-Err.is) in (
      c.pack.ensures
          ∙ ap (λ n. packed n c.answer_place-place.result 0) c.answer_number-number.ensures
          ∙ ap (λ k. packed (answer_numbers a).0 k 0) c.answer_place-place.ensures
          ∙ ap packed_answer answered
          ∙ law.0,
      law.1,
    )

pub returns : goal.returns
returns c =
    let bytes = c.args.cell.now in
    let event = c.args.event in
    let room : cell_size ≤ length bytes = omega arith in
    let told =
    judged_in bytes room event c.jobs_in-numbers.result c.judge-judged.result c.frame_in-frame.ensures c.count_in-count.ensures c.jobs_in-numbers.ensures c.judge-judged.ensures in
    let admitted : cell_answer bytes event ≡ Admitted = is_admitted_lem _ (sym told.admitted ∙ ap is_ok c.in_default.is) in
    let law = event_admitted bytes room event admitted in
    let led = c.changed-after.ensures ∙ ap (λ l. applied l c.judge-judged.result) c.list_in-list.ensures ∙ told.outcome in
    (law.0, c.put_list.ensures ∙ ap (λ (o : ListOutcome). with_list o.list bytes) led ∙ law.1)
