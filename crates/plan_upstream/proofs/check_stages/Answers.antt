-- The first entry that does not demand one unit is a faulty stage or the end, as proofs/Stages says; the rest are the questions
-- in their order.
use Rattle.std.proofs.Common.{Option, Some, None, arith, ℕ, List, ◌+◌, ◌≤◌, ◌≡◌, true, eqb, refl, subst}
use borrow.Author.Tests.{eq-eqb, ne_eqb}
use Rattle.model.specs.Numbers.{at, sum_to}
use Rattle.model.specs.Plan.{all_stages}
use Rattle.model.specs.Soundness.{Sound}
use Rattle.model.specs.Upstream.{faulty_stage, faulty_type}
use Rattle.model.specs.declared.Plan.{Plan}
use Rattle.plan_bytes.specs.Over.{plan_read, plan_over}
use Rattle.plan_bytes.specs.declared.Frame.{Frame}
use Rattle.plan_upstream.specs.CheckInternals.{Stands, Belongs, FirstOther}
use Rattle.plan_upstream.specs.declared.position.Position.{Position}
use Rattle.plan_upstream.proofs.Stages.{faulty, none_faulty, at_end}
use Rattle.plan_upstream.proofs.check_stages.Goals as goal

-- where the first other entry and the stage there, if it is one, are known
module _ (f : Frame) (bytes : List ℕ) (sound : Sound (plan_over f bytes)) (index : ℕ) (first : FirstOther (plan_over f bytes) index)
    (types : ℕ) (counted : types ≡ f.types) where
  abbrev plan : Plan
  plan = plan_over f bytes

  fault : (a : Position) → Stands f.lengths types index a → (faulty_type plan ≡ a.kind + 1) × (faulty_stage plan (a.kind + 1) ≡ a.stage + 1)
  unfolding plan_over plan_read
  fault a there = faulty plan sound index first a (subst (λ (n : ℕ). Stands plan.lengths n index a) counted there)

  module _ (beyond : sum_to types (at f.lengths) ≤ index) where
    past : all_stages plan ≤ index
    unfolding all_stages plan_over plan_read
    past = rw (← counted) beyond

    units-met : eqb (faulty_type plan) 0 ≡ true
    units-met = eq-eqb _ 0 (none_faulty plan sound index first past)

    ends : index ≡ all_stages plan
    ends = at_end plan sound index first past

pub position_of-requires : goal.position_of-requires
unfolding plan_over plan_read
position_of-requires c = omega (arith, c.from-types.ensures, c.requires.types)

pub overflow_cast-kind : goal.overflow_cast-kind
unfolding plan_over plan_read
overflow_cast-kind c = omega (arith, c.in-Some.ensures.of_type, c.from-types.ensures, c.requires.types)

pub returns-in-Some : goal.returns-in-Some
unfolding plan_over plan_read
returns-in-Some c =
    let u = c.units_of-units in
    let at = c.in-Some.at in
    let f = fault c.args.plan.frame.now c.args.plan.stages.now c.requires u.result.other u.ensures.0 _ c.from-types.ensures at c.in-Some.ensures in
    rw (f.0, ne_eqb (at.kind + 1) 0 (λ e. omega arith), f.1) refl

nowhere : (lengths : List ℕ) (types index : ℕ) (r : Option Position) → Belongs lengths types index r → ((a : Position) → r ≡ Some a → ⊥)
    → sum_to types (at lengths) ≤ index
nowhere lengths types index None h none = h
nowhere lengths types index (Some a) h none = absurd (none a refl)

pub returns-then-plan : goal.returns-then-plan
unfolding plan_over plan_read
returns-then-plan c =
    let u = c.units_of-units in
    let beyond = nowhere _ _ _ c.position_of.result c.position_of.ensures c.in_default.not-Some in
    let met = units-met c.args.plan.frame.now c.args.plan.stages.now c.requires u.result.other u.ensures.0 _ c.from-types.ensures beyond in
    rw (met, ne_eqb _ _ c.if-plan.true) refl

pub check_rows-requires : goal.check_rows-requires
check_rows-requires c =
    let u = c.units_of-units in
    let beyond = nowhere _ _ _ c.position_of.result c.position_of.ensures c.in_default.not-Some in
    (c.requires, ends c.args.plan.frame.now c.args.plan.stages.now c.requires u.result.other u.ensures.0 _ c.from-types.ensures beyond, u.ensures.1)

pub returns : goal.returns
unfolding plan_over plan_read
returns c =
    let u = c.units_of-units in
    let beyond = nowhere _ _ _ c.position_of.result c.position_of.ensures c.in_default.not-Some in
    let met = units-met c.args.plan.frame.now c.args.plan.stages.now c.requires u.result.other u.ensures.0 _ c.from-types.ensures beyond in
    rw (met, eq-eqb _ _ c.if-plan.false) c.check_rows.ensures
