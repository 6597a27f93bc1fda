-- What the opening hands on is what agreement and the job's questions do, in this order.
use Rattle.std.proofs.Common.{ℕ, ◌≡◌, sym, ap, ◌∙◌}
use Rattle.std.specs.Prelude.{Option, Result}
use Rattle.events.specs.JobList.{jobs_of}
use Rattle.events.specs.declared.Answer.{Answer}
use Rattle.internals.specs.Internals.{found_in, active_answer, agreed}
use Rattle.internals.specs.JobNumbers.{list_lent}
use Rattle.internals.specs.declared.Agreed.{Agreed}
use Rattle.internals.specs.declared.Found.{Found}
use Rattle.internals.specs.declared.LentJobs.{LentJobs}
use Rattle.internals.specs.declared.StageAsked.{StageAsked}
use Rattle.internals.proofs.QuestionParts.{passed_on}
use Rattle.plan_bytes.specs.Over.{plan_read, plan_over, plan_of}
use Rattle.plan_bytes.specs.declared.LentPlan.{LentPlan}
use Rattle.table_events.specs.ActiveAsked.{both_asked, active_asked}
use Rattle.table_events.proofs.ask_active.Goals as goal

module _ (plan : LentPlan) (jobs : LentJobs) (n : ℕ) (wanted : StageAsked) (g : Result Agreed Answer) (agrees : g ≡ agreed (plan_of plan) (list_lent jobs))
    (o : Option Found) (there : o ≡ found_in n (jobs_of (list_lent jobs)))
    (f : Result Found Answer) (found : f ≡ active_answer plan.frame.now.lengths o n wanted) where
  asked : both_asked g f ≡ active_asked (plan_of plan) (list_lent jobs) n wanted
  unfolding plan_over plan_read
  asked =
      let named : f ≡ active_answer plan.frame.now.lengths (found_in n (jobs_of (list_lent jobs))) n wanted =
      found ∙ ap (λ (o : Option Found). active_answer plan.frame.now.lengths o n wanted) there in
      λ i. both_asked (agrees i) (named i)

pub returns-in_err-found : goal.returns-in_err-found
returns-in_err-found c =
    let a = c.args in
    passed_on _ c.from_residual-in_err-found.ensures.1
    ∙ asked a.plan a.jobs a.job a.wanted _ (sym c.in_ok-agreed.was ∙ c.agree.ensures) _ c.look_up.ensures _ (sym c.in_err-found.was ∙ c.active_answer.ensures)

pub returns : goal.returns
returns c =
    let a = c.args in
    asked a.plan a.jobs a.job a.wanted _ (sym c.in_ok-agreed.was ∙ c.agree.ensures) _ c.look_up.ensures _ (sym c.in_ok-found.was ∙ c.active_answer.ensures)
