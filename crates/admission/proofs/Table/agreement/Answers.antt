-- The answer is that of the first two questions, asked of the list's numbers.
use Rattle.std.proofs.Common.{ℕ, ◌≡◌, List, sym, ap, ◌∙◌}
use Rattle.std.specs.Prelude.{Result}
use Rattle.model.specs.declared.Plan.{Plan}
use Rattle.events.specs.declared.Answer.{Answer}
use Rattle.events.specs.declared.JobList.{JobList}
use Rattle.plan_bytes.specs.Over.{plan_of}
use Rattle.internals.specs.Internals.{agreed}
use Rattle.internals.specs.JobNumbers.{jobs_laid, list_over}
use Rattle.internals.specs.declared.Agreed.{Agreed}
use Rattle.internals.proofs.JobsLaid.{over_laid}
use Rattle.internals.proofs.QuestionParts.{is_admitted_lem}
use Rattle.internals.proofs.FirstQuestions.{agreed_holds, agreed_fails}
use Rattle.admission.proofs.Table.agreement.Goals as goal

-- of the list's numbers it is said what is said of the list
told : (p : Plan) (t : JobList) (jobs : List ℕ) → jobs_laid jobs ≡ t.jobs → (r : Result Agreed Answer) → r ≡ agreed p (list_over t.count jobs) → agreed p t ≡ r
told p t jobs laid r e = sym (e ∙ ap (agreed p) (over_laid t jobs laid))

pub returns-in-Ok : goal.returns-in-Ok
returns-in-Ok c =
    let a = c.args in
    let plan = plan_of a.plan in
    let same = told plan a.self.list c.laid-numbers.result c.laid-numbers.ensures _ c.agree.ensures in
    sym (is_admitted_lem _ (agreed_holds plan a.self.list (same ∙ c.in-Ok.is)).0)

pub returns-in-Err : goal.returns-in-Err
returns-in-Err c =
    let a = c.args in
    let plan = plan_of a.plan in
    let same = told plan a.self.list c.laid-numbers.result c.laid-numbers.ensures _ c.agree.ensures in
    sym (agreed_fails plan a.self.list (same ∙ c.in-Err.is)).1
