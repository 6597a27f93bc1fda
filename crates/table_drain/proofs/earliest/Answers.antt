use Rattle.std.proofs.Common.{ℕ, ◌+◌, ◌<◌, ◌≡◌, ◌≢◌, List, length, drop, get_or, true, false, refl, sym, ap, ◌∙◌, arith}
use Rattle.std.specs.Prelude.{Some, Result, is_ok}
use Rattle.std.specs.List.{position_from}
use Rattle.model.specs.Limits.{max_all_stages}
use Rattle.model.specs.Plan.{no_stage, length_of}
use Rattle.model.specs.Jobs.{no_job, HasNext, AtStage}
use Rattle.model.specs.Soundness.{Sound}
use Rattle.model.specs.declared.Plan.{Plan}
use Rattle.model.specs.declared.Job.{Job}
use Rattle.model.proofs.Decide.{passes}
use Rattle.model.proofs.Soundness.{decides_sound}
use Rattle.events.specs.JobList.{jobs_of, Agrees}
use Rattle.events.specs.Events.{is_admitted, answer}
use Rattle.events.specs.Drain.{move_of}
use Rattle.events.specs.declared.Answer.{Answer}
use Rattle.events.specs.declared.JobList.{JobList}
use Rattle.internals.specs.Internals.{sums_of, ceilings_of, unless_refused, kept_after, stage_index, movable, earliest_position}
use Rattle.internals.specs.JobNumbers.{jobs_laid, list_over}
use Rattle.internals.specs.declared.Ceilings.{Ceilings}
use Rattle.internals.specs.declared.Sums.{Sums}
use Rattle.internals.proofs.JobsLaid.{over_laid}
use Rattle.internals.proofs.StageIndex.{to_within, old_read, new_read}
use Rattle.internals.proofs.SumsAfter.{kept_same}
use Rattle.internals.proofs.QuestionParts.{handed_if}
use Rattle.internals.proofs.ListChanges.{count_is}
use Rattle.internals.proofs.EarliestMove.{job_there_staged, has_next, last_moves, next_moves, movable_from, movable_none}
use Rattle.plan_bytes.specs.Over.{stages_size, plan_read, plan_over, plan_of, stage_at}
use Rattle.plan_bytes.specs.declared.Frame.{Frame}
use Rattle.plan_bytes.proofs.Over.{sound_whole, over_there, at_over}
use Rattle.table_drain.proofs.earliest.Goals as goal

-- at a job of the list
module _ (f : Frame) (bytes : List ℕ) (t : JobList) (i : ℕ) (sound : Sound (plan_over f bytes)) (agrees : Agrees (plan_over f bytes) t) (low : i < t.count) where
  abbrev plan : Plan
  plan = plan_over f bytes

  abbrev job : Job
  job = get_or t.jobs i no_job

  whole : length bytes ≡ stages_size
  whole = sound_whole f bytes (passes (decides_sound plan) sound)

  staged : AtStage plan job
  staged = job_there_staged plan t sound agrees i low

  -- the search stops here, or goes on
  module _ (rest : earliest_position plan t ≡ position_from (movable plan t) i (drop i (jobs_of t))) where
    stops : is_admitted (answer plan t (move_of plan job)) ≡ true → Some i ≡ earliest_position plan t
    stops h = sym (rest ∙ movable_from plan t sound agrees i low ∙ rw h refl)

    goes_on : is_admitted (answer plan t (move_of plan job)) ≡ false → earliest_position plan t ≡ position_from (movable plan t) (i + 1) (drop (i + 1) (jobs_of t))
    goes_on h = rest ∙ movable_from plan t sound agrees i low ∙ rw h refl

    last_stops : length_of plan job.kind ≡ job.stage → Some i ≡ earliest_position plan t
    last_stops last = stops (ap is_admitted (last_moves plan t sound agrees i low last))

  -- at a job that is not at its last stage
  module _ (other : length_of plan job.kind ≢ job.stage) (from : ℕ) (index : from ≡ stage_index f.lengths job.kind job.stage) where
    more : HasNext plan job
    more = has_next plan t sound agrees i low other

    to_there : from + 1 < max_all_stages
    unfolding plan_over plan_read
    to_there = to_within plan sound job staged more _ index

    -- what is tried is the job's move
    says : (jobs : List ℕ) → jobs_laid jobs ≡ t.jobs → (sums : Sums) → sums ≡ sums_of plan (jobs_of (list_over t.count jobs))
        → (ceilings : Ceilings) → ceilings ≡ ceilings_of plan
        → (kept : Result (Unit {0}) Answer) → kept ≡ unless_refused (kept_after sums (stage_at bytes from) (stage_at bytes (from + 1)) ceilings) tt
        → is_admitted (answer plan t (move_of plan job)) ≡ is_ok kept
    unfolding plan_over plan_read
    says jobs laid sums summed ceilings held kept e =
        let summed' = summed ∙ ap (λ (u : JobList). sums_of plan (jobs_of u)) (over_laid t jobs laid) in
        let slots = over_there f bytes in
        let left = sym (at_over bytes from whole f) in
        let entered = sym (at_over bytes (from + 1) whole f) in
        let old = left ∙ old_read plan sound job staged more _ index no_stage slots in
        let new = entered ∙ new_read plan sound job staged more _ index no_stage slots in
        let moves = next_moves plan t sound agrees i low other _ _ old new in
        ap is_admitted (moves ∙ sym (kept_same summed' held refl _)) ∙ sym (ap is_ok e ∙ handed_if _ tt)

pub loop-i-init : goal.loop-i-init
loop-i-init c = refl

pub returns-then-length_of-j : goal.returns-then-length_of-j
unfolding plan_over plan_read
returns-then-length_of-j c =
    let a = c.args in
    let last = sym c.length_of.ensures ∙ c.if-length_of-j.true in
    last_stops a.plan.frame.now a.plan.stages.now a.t c.loop-i.i c.requires.0 c.requires.1 c.loop-i-test.true c.loop-i.invariant last

pub overflow_add-to : goal.overflow_add-to
unfolding plan_over plan_read
overflow_add-to c =
    let a = c.args in
    let j = get_or a.t.jobs c.loop-i.i no_job in
    let other : length_of (plan_of a.plan) j.kind ≢ j.stage = λ e. c.if-length_of-j.false (c.length_of.ensures ∙ e) in
    let there : c.stage_index-from.result + 1 < max_all_stages =
    to_there a.plan.frame.now a.plan.stages.now a.t c.loop-i.i c.requires.0 c.requires.1 c.loop-i-test.true other _ c.stage_index-from.ensures
    in
    omega (arith, there)

pub returns-then-is_ok : goal.returns-then-is_ok
unfolding plan_over plan_read
returns-then-is_ok c =
    let a = c.args in
    let i = c.loop-i.i in
    let j = get_or a.t.jobs i no_job in
    let other : length_of (plan_of a.plan) j.kind ≢ j.stage = λ e. c.if-length_of-j.false (c.length_of.ensures ∙ e) in
    let moves =
    says a.plan.frame.now a.plan.stages.now a.t i c.requires.0 c.requires.1 c.loop-i-test.true other _ c.stage_index-from.ensures c.laid-numbers.result c.laid-numbers.ensures
    _ c.sums_of-sums.ensures _ c.requires.2 _ c.kept_after.ensures
    in
    stops a.plan.frame.now a.plan.stages.now a.t i c.requires.0 c.requires.1 c.loop-i-test.true c.loop-i.invariant
    (moves ∙ sym c.is_ok.ensures.value ∙ c.if-is_ok.true)

pub loop-i-preserved : goal.loop-i-preserved
unfolding plan_over plan_read
loop-i-preserved c =
    let a = c.args in
    let i = c.loop-i.i in
    let j = get_or a.t.jobs i no_job in
    let other : length_of (plan_of a.plan) j.kind ≢ j.stage = λ e. c.if-length_of-j.false (c.length_of.ensures ∙ e) in
    let moves =
    says a.plan.frame.now a.plan.stages.now a.t i c.requires.0 c.requires.1 c.loop-i-test.true other _ c.stage_index-from.ensures c.laid-numbers.result c.laid-numbers.ensures
    _ c.sums_of-sums.ensures _ c.requires.2 _ c.kept_after.ensures
    in
    goes_on a.plan.frame.now a.plan.stages.now a.t i c.requires.0 c.requires.1 c.loop-i-test.true c.loop-i.invariant
    (moves ∙ sym c.is_ok.ensures.value ∙ c.if-is_ok.false)

pub returns : goal.returns
returns c =
    let a = c.args in
    let p = plan_of a.plan in
    let counted = count_is p a.t c.requires.1 in
    sym (c.loop-i.invariant ∙ movable_none p a.t c.loop-i.i (omega (arith, counted, c.loop-i-test.false)))
