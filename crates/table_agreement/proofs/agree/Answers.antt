-- The questions are asked in parts; the last judges the sums with no stage exchanged.
use Rattle.std.proofs.Common.{ℕ, ◌≡◌, List, true, not, sym, ap, ◌∙◌, arith}
use Rattle.std.specs.Prelude.{Result, Ok, is_ok}
use Rattle.model.specs.Limits.{max_all_stages}
use Rattle.model.specs.Soundness.{Sound, sound}
use Rattle.model.specs.declared.Plan.{Plan}
use Rattle.model.proofs.Decide.{holds}
use Rattle.model.proofs.Soundness.{decides_sound}
use Rattle.events.specs.JobList.{jobs_of}
use Rattle.events.specs.Events.{is_admitted}
use Rattle.events.specs.declared.Answer.{Answer}
use Rattle.events.specs.declared.JobList.{JobList}
use Rattle.internals.specs.Internals.{sums_of, unless_refused, kept_after, agreed}
use Rattle.internals.specs.declared.Agreed.{Agreed}
use Rattle.internals.specs.declared.Sums.{Sums}
use Rattle.internals.specs.JobNumbers.{list_over, list_lent}
use Rattle.internals.proofs.JobsLaid.{slots_laid}
use Rattle.internals.proofs.QuestionParts.{handed_if}
use Rattle.internals.proofs.FirstQuestions.{kept_now, agreed_unsound, agreed_unformed, agreed_exceeded, agreed_kept}
use Rattle.plan_bytes.specs.Over.{plan_read, plan_over, plan_of, stage_at}
use Rattle.plan_bytes.specs.declared.Frame.{Frame}
use Rattle.plan_bytes.proofs.Over.{sound_whole, sound_read, at_beyond}
use Rattle.table_agreement.proofs.agree.Goals as goal

-- where the plan is sound, and so is what the bytes say
module _ (f : Frame) (bytes : List ℕ) (count : ℕ) (jobs : List ℕ) (passed : sound (plan_over f bytes) ≡ true) where
  abbrev plan : Plan
  plan = plan_read f bytes

  abbrev list : JobList
  list = list_over count jobs

  over : plan_over f bytes ≡ plan
  over = sound_read f bytes passed

  sound_plan : Sound plan
  sound_plan = holds (decides_sound plan) (sym (ap sound over) ∙ passed)

  -- an answer about that plan
  answered : {r : Result Agreed Answer} → r ≡ agreed plan list → r ≡ agreed (plan_over f bytes) list
  answered e = e ∙ ap (λ (p : Plan). agreed p list) (sym over)

  totals : (sums : Sums) → sums ≡ sums_of (plan_over f bytes) (jobs_of list) → sums ≡ sums_of plan (jobs_of list)
  totals sums e = e ∙ ap (λ (p : Plan). sums_of p (jobs_of list)) over

  -- the sums, with no stage exchanged: are questions 18 and 19 met
  met_by : (sums : Sums) (capacity : List ℕ) (kept : Result (Unit {0}) Answer) → sums ≡ sums_of plan (jobs_of list) → capacity ≡ f.capacity
      → kept ≡ unless_refused (kept_after sums (stage_at bytes max_all_stages) (stage_at bytes max_all_stages) (record { capacity = capacity; bound = f.bound })) tt
      → is_admitted (kept_now plan list) ≡ is_ok kept
  unfolding plan_read
  met_by sums capacity kept summed same e =
      let none = at_beyond bytes max_all_stages (sound_whole f bytes passed) (omega arith) in
      let now : kept_after sums (stage_at bytes max_all_stages) (stage_at bytes max_all_stages) (record { capacity = capacity; bound = f.bound }) ≡ kept_now plan list =
      λ i. kept_after (summed i) (none i) (none i) (record { capacity = same i; bound = f.bound }) in
      sym (ap is_ok e ∙ handed_if _ tt ∙ ap is_admitted now)

pub returns-then-not-is_sound : goal.returns-then-not-is_sound
returns-then-not-is_sound c =
    let a = c.args in
    sym (agreed_unsound (plan_of a.plan) (list_lent a.jobs) (sym c.if-not-is_sound.ensures))

pub returns-then-not-well_formed : goal.returns-then-not-well_formed
unfolding plan_read
returns-then-not-well_formed c =
    let a = c.args in
    let f = a.plan.frame.now in
    let bytes = a.plan.stages.now in
    let passed = sym c.if-not-is_sound.ensures in
    answered f bytes a.jobs.count a.jobs.numbers.now passed
    (sym (agreed_unformed (plan_read f bytes) (list_lent a.jobs) (sound_plan f bytes a.jobs.count a.jobs.numbers.now passed) (slots_laid a.jobs.numbers.now) (sym c.if-not-well_formed.ensures)))

pub returns-then-is_err : goal.returns-then-is_err
unfolding plan_read
returns-then-is_err c =
    let a = c.args in
    let f = a.plan.frame.now in
    let bytes = a.plan.stages.now in
    let passed = sym c.if-not-is_sound.ensures in
    let summed = totals f bytes a.jobs.count a.jobs.numbers.now passed _ c.sums_of-sums.ensures in
    let met = met_by f bytes a.jobs.count a.jobs.numbers.now passed _ _ _ summed c.widened.ensures c.kept_after.ensures in
    answered f bytes a.jobs.count a.jobs.numbers.now passed
    (sym
    (agreed_exceeded (plan_read f bytes) (list_lent a.jobs) (sound_plan f bytes a.jobs.count a.jobs.numbers.now passed) (slots_laid a.jobs.numbers.now)
    (sym c.if-not-well_formed.ensures)
    (met ∙ c.is_err.ensures.negation ∙ ap not c.if-is_err.true)))

pub returns : goal.returns
unfolding plan_read
returns c =
    let a = c.args in
    let f = a.plan.frame.now in
    let bytes = a.plan.stages.now in
    let passed = sym c.if-not-is_sound.ensures in
    let summed = totals f bytes a.jobs.count a.jobs.numbers.now passed _ c.sums_of-sums.ensures in
    let same = c.widened.ensures in
    let met = met_by f bytes a.jobs.count a.jobs.numbers.now passed _ _ _ summed same c.kept_after.ensures in
    answered f bytes a.jobs.count a.jobs.numbers.now passed
    ((λ i. Ok (record { sums = summed i; ceilings = record { capacity = same i; bound = f.bound } }))
    ∙ sym
    (agreed_kept (plan_read f bytes) (list_lent a.jobs) (sound_plan f bytes a.jobs.count a.jobs.numbers.now passed) (slots_laid a.jobs.numbers.now)
    (sym c.if-not-well_formed.ensures)
    (met ∙ c.is_err.ensures.negation ∙ ap not c.if-is_err.false)))
