-- The answer to the first two questions says how the drain begins.
use Rattle.std.proofs.Common.{ℕ, ◌≡◌, List, true, sym, ap, ◌∙◌}
use Rattle.std.specs.Prelude.{Result, Ok}
use Rattle.model.specs.declared.Plan.{Plan}
use Rattle.events.specs.Events.{is_admitted, agreement}
use Rattle.events.specs.declared.JobList.{JobList}
use Rattle.events.specs.declared.Answer.{Answer}
use Rattle.internals.specs.Internals.{ceilings_of, agreed}
use Rattle.internals.specs.JobNumbers.{jobs_laid, list_over}
use Rattle.internals.specs.declared.Agreed.{Agreed}
use Rattle.internals.proofs.JobsLaid.{over_laid}
use Rattle.internals.proofs.QuestionParts.{agreement_holds}
use Rattle.internals.proofs.FirstQuestions.{agreed_holds, agreed_fails}
use Rattle.internals.proofs.DrainLoop.{drain_begins, drain_unsound, drain_disagreeing}
use Rattle.plan_bytes.specs.Over.{plan_of}
use Rattle.table_drain.proofs.drain.Goals as goal

-- of the list's numbers it is said what is said of the list
module _ (p : Plan) (t : JobList) (jobs : List ℕ) (laid : jobs_laid jobs ≡ t.jobs) (r : Result Agreed Answer) (e : r ≡ agreed p (list_over t.count jobs)) where
  told : agreed p t ≡ r
  told = sym (e ∙ ap (agreed p) (over_laid t jobs laid))

  met : {g : Agreed} → r ≡ Ok g → is_admitted (agreement p t) ≡ true
  met h = (agreed_holds p t (told ∙ h)).0

  ceilings : {g : Agreed} → r ≡ Ok g → g.ceilings ≡ ceilings_of p
  ceilings h = ap (λ (g : Agreed). g.ceilings) (sym (agreed_holds p t (told ∙ h)).1)

pub drain_from-requires : goal.drain_from-requires
drain_from-requires c =
    let a = c.args in
    let p = plan_of a.plan in
    let both = agreement_holds p a.t (met p a.t c.laid-numbers.result c.laid-numbers.ensures _ c.agree.ensures c.in-Ok.is) in
    (both.0, both.1, ceilings p a.t c.laid-numbers.result c.laid-numbers.ensures _ c.agree.ensures c.in-Ok.is)

pub returns-in-Ok : goal.returns-in-Ok
returns-in-Ok c =
    let a = c.args in
    let p = plan_of a.plan in
    c.drain_from.ensures ∙ sym (drain_begins p a.t a.budget (met p a.t c.laid-numbers.result c.laid-numbers.ensures _ c.agree.ensures c.in-Ok.is))

pub returns-in-UnsoundPlan : goal.returns-in-UnsoundPlan
returns-in-UnsoundPlan c =
    let a = c.args in
    let p = plan_of a.plan in
    let fails = agreed_fails p a.t (told p a.t c.laid-numbers.result c.laid-numbers.ensures _ c.agree.ensures ∙ c.in-Err.is) in
    sym (drain_unsound p a.t a.budget (fails.1 ∙ c.in-UnsoundPlan.is))

pub returns-in_default : goal.returns-in_default
returns-in_default c =
    let a = c.args in
    let p = plan_of a.plan in
    let fails = agreed_fails p a.t (told p a.t c.laid-numbers.result c.laid-numbers.ensures _ c.agree.ensures ∙ c.in-Err.is) in
    sym (drain_disagreeing p a.t a.budget fails.0 (λ e. c.in_default.not-UnsoundPlan (sym fails.1 ∙ e)))
