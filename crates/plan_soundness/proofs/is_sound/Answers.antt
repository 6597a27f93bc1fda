use Rattle.std.proofs.Common.{arith, ap, sym, refl, ◌∙◌, ◌≡◌, ◌<◌, true, ℕ}
use Rattle.model.specs.Numbers.{at, sum_to, all_to}
use Rattle.model.specs.Soundness.{sound}
use Rattle.model.proofs.Search.{all_more, all_fails}
use Rattle.plan_bytes.specs.declared.Frame.{Frame}
use Rattle.plan_bytes.proofs.Nothing.{nothing_unsound}
use Rattle.plan_bytes.proofs.Over.{over_none, lent_stage, lent_sound, stages_of, stages_within, frame_unsound, sound_lent}
use Rattle.plan_soundness.proofs.is_sound.Goals as goal

pub returns-then-plan-ne8192 : goal.returns-then-plan-ne8192
returns-then-plan-ne8192 c =
    sym (ap sound (over_none c.args.plan.frame.now c.args.plan.stages.now c.if-plan-ne8192.true) ∙ nothing_unsound c.args.plan.frame.now)

pub returns-then-not-sound_lists : goal.returns-then-not-sound_lists
returns-then-not-sound_lists c =
    sym (frame_unsound c.args.plan.frame.now c.args.plan.stages.now c.if-plan-ne8192.false (sym c.if-not-sound_lists.ensures.lists))

-- the total is that of the frame
total_is : (f : Frame) {n total : ℕ} → n ≡ f.types → total ≡ sum_to n (at f.lengths) → total ≡ stages_of f
total_is f types e = e ∙ ap (λ (n : ℕ). sum_to n (at f.lengths)) types

pub returns-then-not-sound_stage : goal.returns-then-not-sound_stage
returns-then-not-sound_stage c =
    let f = c.args.plan.frame.now in
    let bytes = c.args.plan.stages.now in
    let i = c.loop-i.i in
    let ok = sym c.if-not-sound_lists.ensures.lists in
    let few = stages_within f ok in
    let total = total_is f c.from.ensures c.total_of-total.ensures in
    let inside : i < stages_of f = omega arith in
    let answers = lent_sound f bytes i (omega arith) c.from-resources.ensures c.from-rows.ensures in
    let fails = all_fails (lent_stage f bytes) (stages_of f) i inside (answers ∙ sym c.if-not-sound_stage.ensures) in
    sym (sound_lent f bytes c.if-plan-ne8192.false ok ∙ rw fails refl)

pub loop-i-preserved : goal.loop-i-preserved
loop-i-preserved c =
    let f = c.args.plan.frame.now in
    let bytes = c.args.plan.stages.now in
    let i = c.loop-i.i in
    let few = stages_within f (sym c.if-not-sound_lists.ensures.lists) in
    let total = total_is f c.from.ensures c.total_of-total.ensures in
    let answers = lent_sound f bytes i (omega arith) c.from-resources.ensures c.from-rows.ensures in
    record {
      within = omega arith;
      passed = all_more (lent_stage f bytes) i c.loop-i.invariant.passed (answers ∙ sym c.if-not-sound_stage.ensures);
    }

pub returns : goal.returns
returns c =
    let f = c.args.plan.frame.now in
    let bytes = c.args.plan.stages.now in
    let ok = sym c.if-not-sound_lists.ensures.lists in
    let total = total_is f c.from.ensures c.total_of-total.ensures in
    let e : stages_of f ≡ c.loop-i.i = omega arith in
    let all : all_to (stages_of f) (lent_stage f bytes) ≡ true = rw e c.loop-i.invariant.passed in
    sym (sound_lent f bytes c.if-plan-ne8192.false ok ∙ rw (all, ← total) (sym c.zero_beyond.ensures))
