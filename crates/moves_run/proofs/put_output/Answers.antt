-- The lines about the plan are put, and those of the events behind them.
use Rattle.std.proofs.Common.{◌≡◌, ◌+◌, ◌-◌, ℕ, List, ◌++◌, length, take, drop, sym, ap, ◌∙◌, arith}
use lib.ListN.{length-drop}
use Rattle.events.specs.JobList.{empty_list}
use Rattle.plan_text.specs.Reading.{reading}
use Rattle.plan_text.specs.TextQuestions.{text_number}
use Rattle.plan_text.specs.Framed.{reading_from}
use Rattle.plan_text.specs.declared.Reading.{Reading}
use Rattle.moves_text.specs.Division.{plan_length, plan_part}
use Rattle.moves_text.specs.OutputLines.{about_plan, about_text}
use Rattle.moves_text.specs.Output.{to_print}
use Rattle.moves_text.proofs.CountedFew.{plan_within}
use Rattle.moves_text.proofs.OutputParts.{too_long_output, plan_lent, events_lent, whole_output}
use Rattle.write_lines.specs.Sink.{with_text}
use Rattle.write_lines.proofs.Sinks.{text_then}
use Rattle.moves_run.proofs.put_output.Goals as goal

pub returns-then-input-gt65536 : goal.returns-then-input-gt65536
returns-then-input-gt65536 c = c.put_plan_line.ensures ∙ ap (λ bs. with_text bs c.args.out.now) (too_long_output c.args.input.now c.if-input-gt65536.true)

pub overflow_add-first : goal.overflow_add-first
overflow_add-first c = omega (arith, c.plan_length-n.ensures, plan_within c.args.input.now)

-- what is put about the plan, where it was read
module _ (input part : List ℕ) (n number : ℕ) (taken : Reading) (ends : n ≡ plan_length input) (lent : part ≡ take (n - 0) (drop 0 input))
    (read : taken ≡ reading part) (numbered : number ≡ text_number taken.answer) where
  read_told : taken ≡ reading (plan_part input)
  read_told = read ∙ ap reading (plan_lent input part n ends lent)

  about_told : about_text number taken.line taken.plan ≡ about_plan (reading (plan_part input))
  about_told = ap (λ (k : ℕ). about_text k taken.line taken.plan) numbered ∙ ap about_plan read_told

pub put_replies-requires : goal.put_replies-requires
put_replies-requires c =
    let input = c.args.input.now in
    let events = events_lent input c.part_of-2.result.now c.plan_length-n.result c.plan_length-n.ensures c.part_of-2.ensures.bytes in
    omega (arith, ap length events, length-drop (plan_length input + 2) input)

pub returns : goal.returns
returns c =
    let input = c.args.input.now in
    let n = c.plan_length-n.result in
    let number = c.text_number.result in
    let taken = reading_from c.read-reading.result in
    let lent = c.part_of-2.result.now in
    let told = read_told input c.part_of.result.now n number taken c.plan_length-n.ensures c.part_of.ensures.bytes c.read-reading.ensures c.text_number.ensures in
    let about = about_told input c.part_of.result.now n number taken c.plan_length-n.ensures c.part_of.ensures.bytes c.read-reading.ensures c.text_number.ensures in
    let events = events_lent input lent n c.plan_length-n.ensures c.part_of-2.ensures.bytes in
    let whole =
    ap (λ bs. bs ++ to_print taken.plan empty_list 1 lent) (about ∙ ap about_plan (sym told)) ∙ whole_output input c.if-input-gt65536.false taken told lent events in
    c.put_replies.ensures
    ∙ ap (with_text (to_print taken.plan empty_list 1 lent)) c.put_about.ensures
    ∙ text_then (about_text number taken.line taken.plan) (to_print taken.plan empty_list 1 lent) c.args.out.now
    ∙ ap (λ bs. with_text bs c.args.out.now) whole
