-- The excess that is told of a broken row is the worded one, and never 0: where an event is answered 19 all that is asked before 19 holds, so the jobs
-- computed are those that it leads to, each at a stage of the plan, and the row is the one that they break.
use Prim.Native.Nat.{ℕ, ◌≤◌, ◌<◌}
use native.Mathlib.Omega.{arith}
use mathlib.Core.List.{List}
use mathlib.Core.Logic.{◌⊎◌, inl, inr}
use mathlib.Core.Path.{◌≡◌, sym, ap, subst, ◌∙◌}
use Rattle.model.specs.Questions.{FirstFailure}
use Rattle.model.specs.Plan.{bound_of}
use Rattle.model.specs.Jobs.{row_sum, row_excess, Broken, excess_of}
use Rattle.model.specs.declared.Plan.{Plan}
use Rattle.model.specs.declared.Job.{Job}
use Rattle.model.proofs.Jobs.{excess}
use Rattle.events.specs.JobList.{jobs_of}
use Rattle.events.specs.Events.{LeadsTo, answer_numbers, AnswerSays, answer, kept_conditions, own_conditions, jobs_after}
use Rattle.events.specs.declared.JobList.{JobList}
use Rattle.events.specs.declared.Event.{Event}
use Rattle.events.specs.declared.Event.TheVariants.{Load, Advance, Unload, Pull}
use Rattle.events.specs.declared.Answer.{Answer}
use Rattle.events.specs.declared.Answer.TheVariants.{RowBroken}
use Rattle.events.proofs.Answers.{TypeInPlan, leads_after, staged_after, answer_first_failure}
use Rattle.told_text.specs.EventMessage.{excess_after}

-- an answer of 19
module _ (a : Answer) (w : ℕ) (says : answer_numbers a ≡ (19, w)) where
  other : {place number : ℕ} → number < 19 → AnswerSays number place a → ⊥
  other {place} {number} low h = let same : number ≡ 19 = ap (λ (n : ℕ × ℕ). n.0) (sym h ∙ says) in omega arith

  -- a question that is asked before was met
  met : {Q R : Type 0} {number : ℕ} → number < 19 → ((¬ Q) × AnswerSays number 0 a) ⊎ (Q × R) → Q × R
  met low (inl failed) = absurd (other low failed.1)
  met low (inr rest) = rest

  module _ (p : Plan) (js : List Job) where
    own_met : (e : Event) → FirstFailure (AnswerSays 0 0) (own_conditions p js e) a
        → TypeInPlan p e × FirstFailure (AnswerSays 0 0) (kept_conditions p js e) a
    own_met (Load n t) h =
        let type = met (omega arith) (met (omega arith) (met (omega arith) h).1).1 in
        (type.0, (met (omega arith) type.1).1)
    own_met (Advance n) h = (tt, (met (omega arith) (met (omega arith) (met (omega arith) h).1).1).1)
    own_met (Unload n) h = (tt, (met (omega arith) (met (omega arith) (met (omega arith) h).1).1).1)
    own_met (Pull n) h = (tt, (met (omega arith) (met (omega arith) h).1).1)

    -- the row is the one that the jobs afterwards break
    row_met : (e : Event) → FirstFailure (AnswerSays 0 0) (kept_conditions p js e) a → (next : List Job) × LeadsTo p js e next × Broken p next w
    row_met e (inl failed) = absurd (other (omega arith) failed.1.1)
    row_met e (inr (_, inl (_, (v, h, next, leads, broken)))) = (next, leads, subst (Broken p next) (ap (λ (n : ℕ × ℕ). n.1) (sym h ∙ says)) broken)
    row_met e (inr (_, inr (_, h))) = absurd (other (omega arith) h)

pub excess_of_the_row : (p : Plan) (t : JobList) (e : Event) (w : ℕ) → answer p t e ≡ RowBroken w → (next : List Job) → LeadsTo p (jobs_of t) e next
    → (excess_after p t e w ≡ row_excess p w next) × (1 ≤ excess_after p t e w)
unfolding excess_after
excess_of_the_row p t e w h next leads =
    let js = jobs_of t in
    let a = answer p t e in
    let says : answer_numbers a ≡ (19, w) = ap answer_numbers h in
    let sound = met a w says (omega arith) (answer_first_failure p t e) in
    let agrees = met a w says (omega arith) sound.1 in
    let own = own_met a w says p js e agrees.1 in
    let broken = row_met a w says p js e own.1 in
    let same : (l : List Job) → LeadsTo p js e l → l ≡ jobs_after p js e = λ l. leads_after p sound.0 js agrees.0.jobs e {next = l} in
    let staged = staged_after p sound.0 js agrees.0.jobs e next own.0 leads in
    let told : excess_of p (jobs_after p js e) w ≡ row_excess p w next =
    ap (λ (l : List Job). excess_of p l w) (sym (same next leads)) ∙ sym (excess p next staged w) in
    let above : bound_of p w < row_sum p w next =
    subst (λ (l : List Job). bound_of p w < row_sum p w l) (same broken.0 broken.1 ∙ sym (same next leads)) broken.2.0 in
    (told, omega (arith, told))
