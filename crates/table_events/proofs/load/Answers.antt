-- The questions are asked in parts; the last two test the sums with nothing exchanged for the first stage.
use Rattle.std.proofs.Common.{ℕ, ◌≡◌, List, length, get_or, sym, ap, ◌∙◌, arith}
use Rattle.std.specs.Prelude.{Option, Result, Ok, Err}
use Rattle.model.specs.Limits.{max_all_stages}
use Rattle.model.specs.Plan.{no_stage, IsStage, stage_of}
use Rattle.model.specs.Jobs.{loaded_job}
use Rattle.model.specs.declared.Plan.{Plan}
use Rattle.model.proofs.Decide.{passes}
use Rattle.model.proofs.Soundness.{decides_sound}
use Rattle.events.specs.JobList.{jobs_of}
use Rattle.events.specs.Events.{answer}
use Rattle.events.specs.declared.JobList.{JobList}
use Rattle.events.specs.declared.Answer.{Answer}
use Rattle.events.specs.declared.Event.TheVariants.{Load}
use Rattle.internals.specs.Internals.{unless_refused, found_in, stage_index, kept_after, load_answer, agreed}
use Rattle.internals.specs.JobNumbers.{list_lent, Judges}
use Rattle.internals.specs.declared.Agreed.{Agreed}
use Rattle.internals.specs.declared.Found.{Found}
use Rattle.internals.specs.declared.Change.TheVariants.{Added}
use Rattle.internals.proofs.StageIndex.{stage_named}
use Rattle.internals.proofs.SumsAfter.{kept_same}
use Rattle.internals.proofs.ListChanges.{added_list}
use Rattle.internals.proofs.QuestionParts.{passed_on, handed_on, judged_refused, judged_admitted}
use Rattle.internals.proofs.FirstQuestions.{agreed_holds, agreed_judges}
use Rattle.internals.proofs.LoadQuestions.{Loads, load_refused, load_goes, load_kept}
use Rattle.plan_bytes.specs.Over.{stages_size, plan_read, plan_over, plan_of, stage_at}
use Rattle.plan_bytes.specs.declared.Frame.{Frame}
use Rattle.plan_bytes.proofs.Over.{sound_whole, at_beyond, at_over}
use Rattle.table_events.proofs.load.Goals as goal

-- where questions 11 and 12 are met, and 13 to 16 are answered so
module _ (f : Frame) (bytes : List ℕ) (t : JobList) (n k : ℕ) (g : Agreed) (agrees : agreed (plan_over f bytes) t ≡ Ok g)
    (r : Result (Unit {0}) Answer) (found : Option Found) (there : found ≡ found_in n (jobs_of t))
    (e : r ≡ unless_refused (load_answer t.count found f.types n k) tt) where
  abbrev plan : Plan
  plan = plan_over f bytes

  told : r ≡ unless_refused (load_answer t.count (found_in n (jobs_of t)) plan.types n k) tt
  unfolding plan_over plan_read
  told = e ∙ ap (λ (o : Option Found). unless_refused (load_answer t.count o f.types n k) tt) there

  refused : {a : Answer} → r ≡ Err a → Judges plan t (Load n k) (Err a)
  refused h = load_refused plan t n k (agreed_holds plan t agrees).0 tt (sym told ∙ h)

  -- where they are met
  module _ {u : Unit {0}} (goes : r ≡ Ok u) where
    loads : Loads plan t n k
    loads = load_goes plan t n k (agreed_holds plan t agrees).0 (handed_on _ tt (sym told ∙ goes)).0

    staged : IsStage plan k 1
    staged = (loads.type, omega (arith, loads.sound.lengths k loads.type))

    whole : length bytes ≡ stages_size
    whole = sound_whole f bytes (passes (decides_sound plan) loads.sound)

    -- where the first stage stands
    module _ (to : ℕ) (index : to ≡ stage_index f.lengths k 1) where
      new_read : stage_at bytes to ≡ stage_of plan k 1
      unfolding plan_over plan_read
      new_read = sym (stage_named plan k 1 staged ∙ ap (λ n. get_or plan.stages n no_stage) (sym index) ∙ at_over bytes to whole f)

      -- what the sums say
      says : answer plan t (Load n k) ≡ kept_after g.sums (stage_at bytes max_all_stages) (stage_at bytes to) g.ceilings
      unfolding plan_over plan_read
      says =
          let same = (agreed_holds plan t agrees).1 in
          let sums = ap (λ (g : Agreed). g.sums) (sym same) in
          let ceilings = ap (λ (g : Agreed). g.ceilings) (sym same) in
          let none = at_beyond bytes max_all_stages whole (omega arith) in
          load_kept loads _ new_read ∙ sym (kept_same sums ceilings none _)

pub returns-in_err-agreed : goal.returns-in_err-agreed
returns-in_err-agreed c =
    let a = c.args in
    rw (passed_on _ c.from_residual.ensures.1) (agreed_judges (plan_of a.plan) (list_lent a.jobs) (Load a.job a.kind) (sym c.agree.ensures ∙ c.in_err-agreed.was))

pub returns-in_err-load_answer : goal.returns-in_err-load_answer
returns-in_err-load_answer c =
    let a = c.args in
    rw (passed_on _ c.from_residual-in_err-load_answer.ensures.1)
    (refused a.plan.frame.now a.plan.stages.now (list_lent a.jobs) a.job a.kind _ (sym c.agree.ensures ∙ c.in_ok-agreed.was) _ _ c.look_up.ensures c.load_answer.ensures
    c.in_err-load_answer.was)

pub returns-in_err-kept_after : goal.returns-in_err-kept_after
returns-in_err-kept_after c =
    let a = c.args in
    let says =
    says a.plan.frame.now a.plan.stages.now (list_lent a.jobs) a.job a.kind _ (sym c.agree.ensures ∙ c.in_ok-agreed.was) _ _ c.look_up.ensures c.load_answer.ensures
    c.in_ok-load_answer.was _ c.stage_index-to.ensures in
    rw (passed_on _ c.from_residual-in_err-kept_after.ensures.1)
    (judged_refused (plan_of a.plan) (list_lent a.jobs) (Load a.job a.kind) _ tt says (sym c.kept_after.ensures ∙ c.in_err-kept_after.was))

pub returns : goal.returns
returns c =
    let a = c.args in
    let f = a.plan.frame.now in
    let bytes = a.plan.stages.now in
    let t = list_lent a.jobs in
    let agrees = sym c.agree.ensures ∙ c.in_ok-agreed.was in
    let loads = loads f bytes t a.job a.kind _ agrees _ _ c.look_up.ensures c.load_answer.ensures c.in_ok-load_answer.was in
    let says =
    says f bytes t a.job a.kind _ agrees _ _ c.look_up.ensures c.load_answer.ensures c.in_ok-load_answer.was _ c.stage_index-to.ensures in
    let leads = added_list (plan_of a.plan) t loads.agrees (loaded_job a.job a.kind) loads.room in
    judged_admitted (plan_of a.plan) t (Load a.job a.kind) _ tt says (sym c.kept_after.ensures ∙ c.in_ok-kept_after.was) (Added (loaded_job a.job a.kind)) leads
