use Rattle.std.proofs.Common.{arith, rules, ℕ, ◌<◌, ◌≡◌, suc, min, List, length, eqb, sym, ap, ◌∙◌}
use lib.ListN.{length-set}
use Rattle.model.specs.Numbers.{at, entry, sum_to}
use Rattle.model.specs.Plan.{no_stage}
use Rattle.model.specs.Soundness.{Sound}
use Rattle.model.specs.declared.Plan.{Plan}
use Rattle.model.specs.declared.Stage.{Stage}
use Rattle.model.proofs.Decide.{passes}
use Rattle.model.proofs.Search.{all_more}
use Rattle.model.proofs.Soundness.{decides_sound}
use Rattle.internals.proofs.FixedWidth.{fill_more}
use Rattle.plan_bytes.specs.Over.{stages_size, plan_read, plan_over}
use Rattle.plan_bytes.specs.declared.Frame.{Frame}
use Rattle.plan_bytes.proofs.Laid.{stage_lent}
use Rattle.plan_bytes.proofs.Over.{sound_whole, over_read}
use Rattle.plan_upstream_stage.specs.Due.{lowest_rank}
use Rattle.plan_upstream.specs.CheckInternals.{unit_entry}
use Rattle.plan_upstream.proofs.units.units_of.Goals as goal

module _ (f : Frame) (bytes : List ℕ) (sound : Sound (plan_over f bytes)) where
  abbrev plan : Plan
  plan = plan_over f bytes

  whole : length bytes ≡ stages_size
  whole = sound_whole f bytes (passes (decides_sound plan) sound)

  -- where there is a next entry
  module _ (other : ℕ) (more : other < 128) where
    here : entry plan.stages (suc other) no_stage ≡ stage_lent bytes other
    here = over_read f bytes other no_stage whole (omega arith)

    unit-here : unit_entry plan (suc other) ≡ eqb (sum_to f.resources (at (stage_lent bytes other).demand)) 1
    unfolding plan_over plan_read
    unit-here = ap (λ (s : Stage). eqb (sum_to f.resources (at s.demand)) 1) here

    -- a sound plan has no more resources than can have a rank
    rank-here : lowest_rank (min f.resources 32) (stage_lent bytes other).demand f.rank
        ≡ lowest_rank plan.resources (entry plan.stages (suc other) no_stage).demand plan.rank
    unfolding plan_over plan_read
    rank-here =
        let e : min f.resources 32 ≡ f.resources = omega (arith, sound.resources) in
        rw e (ap (λ (s : Stage). lowest_rank f.resources s.demand f.rank) (sym here))

pub slice_bounds-one_unit-end : goal.slice_bounds-one_unit-end
slice_bounds-one_unit-end c = let h = whole c.args.plan.frame.now c.args.plan.stages.now c.requires in search rules

pub loop-other-preserved : goal.loop-other-preserved
loop-other-preserved c =
    let l = c.loop-other in
    let f = c.args.plan.frame.now in
    let bytes = c.args.plan.stages.now in
    let p = plan_over f bytes in
    record {
      passed =
          all_more (unit_entry p) l.other l.invariant.passed
          (unit-here f bytes c.requires l.other c.loop-other-test.true ∙ sym c.if-not-one_unit.ensures);
      full = simp length-set l.invariant.full;
      ranked =
          fill_more (λ i rank. rank ≡ lowest_rank p.resources (entry p.stages i no_stage).demand p.rank) l.ranks l.other _ (omega arith) l.invariant.ranked
          (c.lowest_rank.ensures ∙ rank-here f bytes c.requires l.other c.loop-other-test.true);
    }

pub returns-then-not-one_unit : goal.returns-then-not-one_unit
returns-then-not-one_unit c =
    let l = c.loop-other in
    let f = c.args.plan.frame.now in (
      record {
        before = l.invariant.passed;
        within = omega arith;
        here = λ more. unit-here f c.args.plan.stages.now c.requires l.other more ∙ sym c.if-not-one_unit.ensures;
      },
      l.invariant.ranked,
    )

pub returns : goal.returns
returns c =
    let l = c.loop-other in
    let whole : l.other ≡ 128 = omega arith in
    rw (← whole) (record { before = l.invariant.passed; within = omega arith; here = λ more. absurd (omega arith) }, l.invariant.ranked)
