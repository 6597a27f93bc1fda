-- The questions are asked in parts; the last two test the sums with the old stage exchanged for the new.
use Rattle.std.proofs.Common.{ℕ, ◌+◌, ◌^◌, ◌<◌, ◌≡◌, List, length, refl, sym, ap, ◌∙◌, arith}
use Rattle.std.specs.Prelude.{Ok}
use mathlib.Core.Path.{subst⁻¹}
use borrow.Author.Tests.{ltb-true}
use Rattle.model.specs.Limits.{max_all_stages}
use Rattle.model.specs.Plan.{no_stage, stage_of}
use Rattle.model.specs.Jobs.{job_of, HasNext, AtStage, advanced_job}
use Rattle.model.specs.declared.Plan.{Plan}
use Rattle.model.specs.declared.Stage.{Stage}
use Rattle.model.specs.declared.Job.{Job}
use Rattle.model.proofs.Decide.{passes}
use Rattle.model.proofs.Soundness.{decides_sound}
use Rattle.events.specs.JobList.{jobs_of}
use Rattle.events.specs.Events.{answer}
use Rattle.events.specs.declared.JobList.{JobList}
use Rattle.events.specs.declared.Event.TheVariants.{Advance}
use Rattle.internals.specs.Internals.{kept_after, stage_index, with_replaced}
use Rattle.internals.specs.JobNumbers.{list_lent}
use Rattle.internals.specs.declared.Agreed.{Agreed}
use Rattle.internals.specs.declared.Found.{Found}
use Rattle.internals.specs.declared.Change.TheVariants.{Moved}
use Rattle.internals.specs.declared.StageAsked.TheVariants.{Next}
use Rattle.internals.proofs.Positions.{standing}
use Rattle.internals.proofs.StageIndex.{to_within, old_read, new_read}
use Rattle.internals.proofs.SumsAfter.{kept_same}
use Rattle.internals.proofs.ListChanges.{advanced_list}
use Rattle.internals.proofs.QuestionParts.{passed_on, judged_refused, judged_admitted}
use Rattle.internals.proofs.ActiveQuestions.{active, job_staged, advance_goes}
use Rattle.plan_bytes.specs.Over.{stages_size, plan_read, plan_over, plan_of, stage_at}
use Rattle.plan_bytes.specs.declared.Frame.{Frame}
use Rattle.plan_bytes.proofs.Over.{sound_whole, over_there, at_over}
use Rattle.table_events.specs.ActiveAsked.{active_asked}
use Rattle.table_events.specs.declared.Asked.{Asked}
use Rattle.table_events.proofs.ActiveOpening.{Opened, opening_refused, opened}
use Rattle.table_events.proofs.advance.Goals as goal

-- where questions 11 to 14 and 17 are met
module _ (f : Frame) (bytes : List ℕ) (t : JobList) (n : ℕ) (a : Asked) (asked : active_asked (plan_over f bytes) t n Next ≡ Ok a) where
  abbrev plan : Plan
  plan = plan_over f bytes

  abbrev j : Job
  j = a.found.job

  o : Opened plan t n Next a
  o = opened plan t n Next asked

  named : j ≡ job_of n (jobs_of t)
  named = ap (λ (f : Found). f.job) (sym o.found)

  found_next : HasNext plan (job_of n (jobs_of t))
  found_next = ltb-true _ _ o.right_stage

  more : HasNext plan j
  more = subst⁻¹ (HasNext plan) named found_next

  staged : AtStage plan j
  staged = subst⁻¹ (AtStage plan) named (job_staged o.stands)

  whole : length bytes ≡ stages_size
  whole = sound_whole f bytes (passes (decides_sound plan) o.stands.sound)

  stage_short : j.stage + 1 < 2 ^ 32
  stage_short = omega (arith, more, o.stands.sound.lengths _ staged.0)

  -- where the next stage stands
  module _ (from : ℕ) (index : from ≡ stage_index f.lengths j.kind j.stage) where
    to_there : from + 1 < max_all_stages
    unfolding plan_over plan_read
    to_there = to_within plan o.stands.sound j staged more _ index

    -- what the sums say
    says : answer plan t (Advance n) ≡ kept_after a.agreed.sums (stage_at bytes from) (stage_at bytes (from + 1)) a.agreed.ceilings
    unfolding plan_over plan_read
    says =
        let sums = ap (λ (g : Agreed). g.sums) (sym o.at_hand) in
        let ceilings = ap (λ (g : Agreed). g.ceilings) (sym o.at_hand) in
        let slots = over_there f bytes in
        let stage' : Job → Stage = λ j. stage_of plan j.kind j.stage in
        let next' : Job → Stage = λ j. stage_of plan j.kind (j.stage + 1) in
        let left = sym (at_over bytes from whole f) in
        let entered = sym (at_over bytes (from + 1) whole f) in
        let old = left ∙ old_read plan o.stands.sound j staged more _ index no_stage slots ∙ ap stage' named in
        let new = entered ∙ new_read plan o.stands.sound j staged more _ index no_stage slots ∙ ap next' named in
        advance_goes o.stands found_next _ _ old new ∙ sym (kept_same sums ceilings refl _)

pub returns-in_err-agreed : goal.returns-in_err-agreed
returns-in_err-agreed c =
    let a = c.args in
    rw (passed_on _ c.from_residual.ensures.1) (opening_refused (plan_of a.plan) (list_lent a.jobs) a.job Next (sym c.ask_active.ensures ∙ c.in_err-agreed.was))

pub overflow_add-to : goal.overflow_add-to
overflow_add-to c =
    let a = c.args in
    let asked = sym c.ask_active.ensures ∙ c.in_ok-agreed.was in
    let there = to_there a.plan.frame.now a.plan.stages.now (list_lent a.jobs) a.job _ asked _ c.stage_index-from.ensures in
    omega (arith, there)

pub returns-in_err-kept_after : goal.returns-in_err-kept_after
returns-in_err-kept_after c =
    let a = c.args in
    let asked = sym c.ask_active.ensures ∙ c.in_ok-agreed.was in
    let says = says a.plan.frame.now a.plan.stages.now (list_lent a.jobs) a.job _ asked _ c.stage_index-from.ensures in
    rw (passed_on _ c.from_residual-in_err-kept_after.ensures.1)
    (judged_refused (plan_of a.plan) (list_lent a.jobs) (Advance a.job) _ tt says (sym c.kept_after.ensures ∙ c.in_err-kept_after.was))

pub overflow_add-next : goal.overflow_add-next
overflow_add-next c =
    let a = c.args in
    let asked = sym c.ask_active.ensures ∙ c.in_ok-agreed.was in
    let short = stage_short a.plan.frame.now a.plan.stages.now (list_lent a.jobs) a.job _ asked in
    omega (arith, short)

pub returns : goal.returns
returns c =
    let a = c.args in
    let t = list_lent a.jobs in
    let plan = plan_of a.plan in
    let asked = sym c.ask_active.ensures ∙ c.in_ok-agreed.was in
    let found = c.in_ok-agreed.field-0.found in
    let o = opened plan t a.job Next asked in
    let says = says a.plan.frame.now a.plan.stages.now t a.job _ asked _ c.stage_index-from.ensures in
    let same : found ≡ standing a.job (jobs_of t) = sym o.found in
    let leads = (λ i. with_replaced t (same i).at (advanced_job plan (same i).job)) ∙ advanced_list plan t o.stands.agrees a.job (active o.stands) in
    judged_admitted plan t (Advance a.job) _ tt says (sym c.kept_after.ensures ∙ c.in_ok-kept_after.was) (Moved found.at (advanced_job plan found.job)) leads
