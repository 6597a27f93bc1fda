-- What is said of an input is said of its plan, and a longer input is refused by its length.
use Rattle.std.proofs.Common.{ℕ, ◌≡◌, ◌-◌, ◌≤◌, ◌<◌, List, [], arith, refl, ap, ◌∙◌, length, take}
use borrow.Author.Tests.{le-leb, lt-leb}
use Rattle.plan_text.specs.TextQuestions.{max_text}
use Rattle.plan_text.specs.declared.TextAnswer.TheVariants.{TooLong}
use Rattle.moves_text.specs.Division.{plan_length, plan_part}
use Rattle.moves_text.proofs.Overlays.{put_as}
use Rattle.told_text.specs.PlanMessage.{message_with, plan_message, message}
use Rattle.tell_plan.proofs.input_message.Goals as goal

module _ (input : List ℕ) where
  too_long : max_text < length input → message_with 0 TooLong [] ≡ message input
  unfolding message
  too_long h = rw (lt-leb (length input) max_text h) refl

  plan_taken : {n : ℕ} {text : List ℕ} → n ≡ plan_length input → text ≡ take (n - 0) input → text ≡ plan_part input
  plan_taken {n} e taken = taken ∙ ap (λ k. take k input) (let all : n - 0 ≡ plan_length input = omega arith in all)

  of_plan : length input ≤ max_text → plan_message (plan_part input) ≡ message input
  unfolding message
  of_plan h = rw (le-leb (length input) max_text h) refl

pub returns-then-input-gt65536 : goal.returns-then-input-gt65536
returns-then-input-gt65536 c =
    let a = c.args in put_as 0 a.buffer.now (too_long a.input.now c.if-input-gt65536.true) c.put_line_message.ensures

pub returns : goal.returns
returns c =
    let a = c.args in
    let taken = plan_taken a.input.now c.plan_length.ensures c.part_of.ensures.bytes in
    put_as 0 a.buffer.now (ap plan_message taken ∙ of_plan a.input.now c.if-input-gt65536.false) c.plan_message.ensures
