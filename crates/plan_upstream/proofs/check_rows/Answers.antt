-- The two questions in their order: where the code goes on a question is met.
use Rattle.std.proofs.Common.{Some, None, arith, ℕ, List, ◌≡◌, refl, sym, ap, subst, ◌∙◌}
use Rattle.model.specs.Numbers.{in_range, lowest}
use Rattle.model.specs.Plan.{bound_of, capacity_of, all_stages}
use Rattle.model.specs.Upstream.{faulty_row, faulty_bound}
use Rattle.plan_bytes.specs.Over.{plan_read, plan_over}
use Rattle.plan_bytes.specs.declared.Frame.{Frame}
use Rattle.plan_upstream.specs.CheckInternals.{LowestRanks, Closed}
use Rattle.plan_upstream.proofs.RowSearch.{place_some, place_none}
use Rattle.plan_upstream.proofs.TypeEnds.{ranks_closed}
use Rattle.plan_upstream.proofs.check_rows.Goals as goal

pub closed-ranks-requires : goal.closed-ranks-requires
unfolding all_stages plan_over plan_read
closed-ranks-requires c =
    let sound = c.requires.0 in
    rw c.from.ensures (record { few = sound.types.1; some = λ t h. (sound.lengths t h).0; total = sound.total })

pub faulty_row-requires : goal.faulty_row-requires
unfolding plan_over plan_read
faulty_row-requires c =
    let p = plan_over c.args.plan.frame.now c.args.plan.stages.now in
    let lowest = subst (λ (n : ℕ). LowestRanks p n c.args.lowest) c.requires.1 c.requires.2 in
    let ranks = subst (λ (n : ℕ). Closed p.lengths n c.args.lowest c.closed-ranks.result) c.from.ensures c.closed-ranks.ensures in
    (c.requires.0, c.requires.1, ranks_closed p c.args.lowest c.closed-ranks.result lowest ranks)

pub faulty_bound-requires : goal.faulty_bound-requires
unfolding plan_over plan_read
faulty_bound-requires c = omega (arith, c.from-2.ensures, c.requires.0.rows)

bound_is : (f : Frame) (bytes : List ℕ) {n : ℕ} → n ≡ f.rows
    → faulty_bound (plan_over f bytes) ≡ lowest n (λ (w : ℕ). in_range (bound_of (plan_over f bytes) w) (capacity_of (plan_over f bytes) w))
unfolding faulty_bound plan_over plan_read
bound_is f bytes rows = sym (ap (λ (n : ℕ). lowest n (λ (w : ℕ). in_range (bound_of (plan_over f bytes) w) (capacity_of (plan_over f bytes) w))) rows)

pub returns-in-Some : goal.returns-in-Some
returns-in-Some c = let e = place_some (faulty_row (plan_over c.args.plan.frame.now c.args.plan.stages.now)) c.in-Some.row c.in-Some.ensures in rw (e.0, e.1) refl

pub returns-in-Some-faulty_bound : goal.returns-in-Some-faulty_bound
unfolding plan_over plan_read
returns-in-Some-faulty_bound c =
    let p = plan_over c.args.plan.frame.now c.args.plan.stages.now in
    let right = place_none (faulty_row p) (λ r e. c.in_default.not-Some r (c.faulty_row.ensures ∙ e)) in
    let e = place_some _ c.in-Some-faulty_bound.row c.in-Some-faulty_bound.ensures in
    rw (right, bound_is c.args.plan.frame.now c.args.plan.stages.now c.from-2.ensures, e.0, e.1) refl

none_some : (r : ℕ) → None ≡ Some r → ⊥
none_some r e = cc

pub returns-in-None : goal.returns-in-None
unfolding plan_over plan_read
returns-in-None c =
    let p = plan_over c.args.plan.frame.now c.args.plan.stages.now in
    let right = place_none (faulty_row p) (λ r e. c.in_default.not-Some r (c.faulty_row.ensures ∙ e)) in
    let bound = place_none _ (λ r e. none_some r (c.in-None.ensures ∙ e)) in
    rw (right, bound_is c.args.plan.frame.now c.args.plan.stages.now c.from-2.ensures, bound) refl
