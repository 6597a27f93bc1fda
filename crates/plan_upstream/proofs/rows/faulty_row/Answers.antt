use Rattle.std.proofs.Common.{arith, ℕ, ◌+◌, ◌-◌, ◌*◌, ◌<◌, ◌≤◌, ◌≡◌, suc, false, List, length, get_or, refl, sym, ap, subst, ◌∙◌, add-one}
use Rattle.model.specs.Limits.{max_rows, max_all_stages}
use Rattle.model.specs.Numbers.{at}
use Rattle.model.specs.Plan.{no_stage, demand_of, weight_of, stage_of}
use Rattle.model.specs.Soundness.{Sound}
use Rattle.model.specs.Upstream.{upstream_row, faulty_row}
use Rattle.model.specs.declared.Plan.{Plan}
use Rattle.model.proofs.Decide.{passes}
use Rattle.model.proofs.Search.{lowest_more}
use Rattle.model.proofs.Flat.{index_within, stage_there}
use Rattle.model.proofs.Soundness.{decides_sound}
use Rattle.plan_bytes.specs.Over.{stages_size, plan_read, plan_over, plan_of}
use Rattle.plan_bytes.specs.declared.Frame.{Frame}
use Rattle.plan_bytes.proofs.Laid.{stage_lent}
use Rattle.plan_bytes.proofs.Over.{sound_whole, over_there, over_read}
use Rattle.plan_upstream_stage.specs.Due.{due_by}
use Rattle.plan_upstream.specs.CheckInternals.{StretchRanks, stretch_rank}
use Rattle.plan_upstream.proofs.RowSearch.{fault_here, fault_nowhere}
use Rattle.plan_upstream.proofs.LentStage.{demand_there, weight_there}
use Rattle.plan_upstream.proofs.RowWalk.{due_to, Walk, StageAtIndex}
use Rattle.plan_upstream.proofs.RowWalk.{wrong_row, walk_starts, walk_ends, next_stage, next_due, walk_on}
use Rattle.plan_upstream.proofs.rows.faulty_row.Goals as goal

due-same : {a b c d e f : ℕ} (later : ℕ) → a ≡ b → c ≡ d → e ≡ f → due_by a c e later ≡ due_by b d f later
due-same later x y z = rw (x, y, z) refl

module _ (f : Frame) (bytes : List ℕ) (sound : Sound (plan_over f bytes)) where
  abbrev p : Plan
  p = plan_over f bytes

  whole : length bytes ≡ stages_size
  whole = sound_whole f bytes (passes (decides_sound p) sound)

  few : {rows : ℕ} → rows ≡ f.rows → rows ≤ max_rows
  unfolding plan_over plan_read
  few e = omega (arith, e, sound.rows)

  -- where there is a next stage
  module _ (row index due : ℕ) (low : row < max_rows) (walk : Walk p (suc row) index due) (some : 0 < index) where
    -- the index of the next stage
    abbrev i : ℕ
    i = index - 1

    more : index ≡ suc i
    more = omega (arith, some)

    walk_here : Walk p (suc row) (suc i) due
    walk_here = subst (λ (n : ℕ). Walk p (suc row) n due) more walk

    next : StageAtIndex p i
    next = next_stage p i walk_here.within

    inside : i < max_all_stages
    inside = index_within p sound next.t next.k next.stage i next.here

    room : i * 64 + row + 32 < length bytes
    room = omega (arith, inside, low, whole)

    stage_is : stage_of p next.t next.k ≡ stage_lent bytes i
    stage_is =
        sym (stage_there p sound next.t next.k next.stage i next.here no_stage (over_there f bytes)) ∙ over_read f bytes i no_stage whole inside

    weight_is : weight_of p (suc row) next.t next.k ≡ get_or bytes (i * 64 + row + 32) 0
    unfolding weight_of
    weight_is = rw stage_is (weight_there bytes i row low)

    demand-is : demand_of p (suc row) next.t next.k ≡ get_or bytes (i * 64 + row) 0
    unfolding demand_of
    demand-is = rw stage_is (demand_there bytes i row low)

    module _ (ranks : List ℕ) (stretch : StretchRanks p ranks) {limit weight : ℕ} (rank : (limit ≡ get_or f.rank row 0) × (limit ≤ 255))
        (given : weight ≡ due_by (get_or bytes (i * 64 + row) 0) (get_or ranks i 0) limit due) where
      rank_is : get_or ranks i 0 ≡ stretch_rank p next.t next.k
      rank_is = ap (at ranks) (sym (add-one i) ∙ next.here) ∙ stretch next.t next.k next.stage

      due_is : weight ≡ due_to p (suc row) next.t next.k
      unfolding plan_over plan_read
      due_is =
          given
          ∙ due-same due (sym demand-is) rank_is rank.0
          ∙ sym (next_due p (suc row) walk_here next (omega (arith, rank)))

      fault : (¬ (get_or bytes (i * 64 + row + 32) 0 ≡ weight)) → upstream_row p (suc row) ≡ false
      fault wrong = wrong_row p (suc row) next.t next.k next.stage (λ right. wrong (sym weight_is ∙ right ∙ sym due_is))

      goes_on : get_or bytes (i * 64 + row + 32) 0 ≡ weight → Walk p (suc row) i weight
      goes_on right = walk_on p (suc row) walk_here next due_is (weight_is ∙ right ∙ due_is)

pub bounds-plan-row : goal.bounds-plan-row
bounds-plan-row c = let h = few c.args.plan.frame.now c.args.plan.stages.now c.requires.0 c.from-row-end.ensures in omega arith

pub stages-init : goal.stages-init
stages-init c =
    let p = plan_of c.args.plan in
    record { walk = subst (λ (n : ℕ). Walk p (suc c.rows.row) n 0) (sym c.requires.1) (walk_starts p (suc c.rows.row)); none = c.rows.invariant.none }

pub overflow_add-demand : goal.overflow_add-demand
overflow_add-demand c =
    let f = c.args.plan.frame.now in
    let bytes = c.args.plan.stages.now in
    let h = few f bytes c.requires.0 c.from-row-end.ensures in
    omega (arith, room f bytes c.requires.0 c.rows.row c.stages.index c.stages.due (omega arith) c.stages.invariant.walk c.stages-test.true)

pub overflow_add-weight : goal.overflow_add-weight
overflow_add-weight c =
    let f = c.args.plan.frame.now in
    let bytes = c.args.plan.stages.now in
    let h = few f bytes c.requires.0 c.from-row-end.ensures in
    omega (arith, room f bytes c.requires.0 c.rows.row c.stages.index c.stages.due (omega arith) c.stages.invariant.walk c.stages-test.true)

pub bounds-plan-demand : goal.bounds-plan-demand
bounds-plan-demand c =
    let f = c.args.plan.frame.now in
    let bytes = c.args.plan.stages.now in
    let h = few f bytes c.requires.0 c.from-row-end.ensures in
    omega (arith, room f bytes c.requires.0 c.rows.row c.stages.index c.stages.due (omega arith) c.stages.invariant.walk c.stages-test.true)

pub bounds-plan-weight : goal.bounds-plan-weight
bounds-plan-weight c =
    let f = c.args.plan.frame.now in
    let bytes = c.args.plan.stages.now in
    let h = few f bytes c.requires.0 c.from-row-end.ensures in
    omega (arith, room f bytes c.requires.0 c.rows.row c.stages.index c.stages.due (omega arith) c.stages.invariant.walk c.stages-test.true)

pub overflow_cast-fault : goal.overflow_cast-fault
overflow_cast-fault c = let h = few c.args.plan.frame.now c.args.plan.stages.now c.requires.0 c.from-row-end.ensures in omega arith

pub stages-preserved : goal.stages-preserved
stages-preserved c =
    let f = c.args.plan.frame.now in
    let bytes = c.args.plan.stages.now in
    let h = few f bytes c.requires.0 c.from-row-end.ensures in
    record {
      walk = goes_on f bytes c.requires.0 c.rows.row c.stages.index c.stages.due (omega arith) c.stages.invariant.walk c.stages-test.true c.args.ranks.now c.requires.2
          (c.from-limit.ensures, omega arith) c.due_weight-due.ensures c.if-plan-weight.false;
      none = c.stages.invariant.none;
    }

pub rows-preserved : goal.rows-preserved
rows-preserved c =
    let p = plan_of c.args.plan in
    let end : c.stages.index ≡ 0 = omega (arith, c.stages-test.false) in
    let next = suc c.rows.row in
    let right = walk_ends p next (subst (λ (n : ℕ). Walk p next n c.stages.due) end c.stages.invariant.walk) in
    record { passed = lowest_more _ c.rows.row c.rows.invariant.passed right; none = c.stages.invariant.none }

pub returns-after-rows : goal.returns-after-rows
unfolding faulty_row plan_over plan_read
returns-after-rows c =
    let p = plan_of c.args.plan in
    c.rows.invariant.none ∙ fault_nowhere (upstream_row p) p.rows c.rows.row c.rows.invariant.passed (omega (arith, c.from-row-end.ensures))

pub returns-then-plan-weight : goal.returns-then-plan-weight
unfolding faulty_row plan_over plan_read
returns-then-plan-weight c =
    let f = c.args.plan.frame.now in
    let bytes = c.args.plan.stages.now in
    let p = plan_of c.args.plan in
    let row = c.rows.row in
    let h = few f bytes c.requires.0 c.from-row-end.ensures in
    let wrong = fault f bytes c.requires.0 row c.stages.index c.stages.due (omega arith) c.stages.invariant.walk c.stages-test.true c.args.ranks.now c.requires.2
    (c.from-limit.ensures, omega arith) c.due_weight-due.ensures c.if-plan-weight.true in
    fault_here (upstream_row p) p.rows row c.rows.invariant.passed (omega (arith, c.from-row-end.ensures)) wrong
