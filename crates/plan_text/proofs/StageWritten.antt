-- The stages of a plan after a record: S and A change the stage that they name and no other, and the other records change none,
-- since a plan has no demand and no weight before the stages of its types are known.
use Prim.Native.Nat.{ℕ, zero, suc, ◌+◌, ◌-◌, ◌≤◌, ◌<◌}
use native.Mathlib.Nat.{add-suc}
use native.Mathlib.Numerals.{sub-one}
use native.Mathlib.Omega.{arith}
use mathlib.Core.Bool.{Bool, true, false, cond, ◌&&◌}
use mathlib.Core.List.{List}
use mathlib.Core.Logic.{◌≢◌}
use mathlib.Core.Path.{◌≡◌, refl, sym, ap, ◌∙◌}
use lib.ListN.{length, get_or, set, replicate}
use lib.Seq.{get_or-set_same, get_or-set_other, set-get_or}
use borrow.Author.Tests.{ne_eqb}
use Rattle.model.specs.Limits.{max_all_stages}
use Rattle.model.specs.Numbers.{in_range, entry, sum_to}
use Rattle.model.specs.Plan.{no_stage, length_of, IsStage, is_stage, all_stages, stage_of}
use Rattle.model.specs.declared.Stage.{Stage}
use Rattle.model.specs.declared.Plan.{Plan}
use Rattle.model.proofs.Decide.{Decides, holding, failing, passes, decides_range, ◌and◌}
use Rattle.model.proofs.Flat.{index_of_stage, one_at_index}
use Rattle.model.proofs.Lists.{replicated}
use Rattle.plan_text.specs.Draft.{Draft, index_named, draft_after}
use Rattle.plan_text.specs.declared.Record.{Record}

-- an entry counted from 1, read from 0
entry_from_0 : {A : Type 0} (xs : List A) (s k : ℕ) (d : A) → 1 ≤ k → entry xs (s + k) d ≡ get_or xs (s + (k - 1)) d
entry_from_0 xs s zero d h = absurd (omega arith)
entry_from_0 xs s (suc k) d h = rw (add-suc, sub-one) refl

-- a stage is read at its index where the plan has it, and is none elsewhere
abbrev index_of : Plan → ℕ → ℕ → ℕ
index_of p t k = sum_to (t - 1) (length_of p) + (k - 1)

decides_stage : (p : Plan) (t k : ℕ) → Decides (IsStage p t k) (is_stage p t k)
unfolding is_stage
decides_stage p t k = decides_range t p.types and decides_range k (length_of p t)

read : (p : Plan) (t k : ℕ) {b : Bool} → Decides (IsStage p t k) b
    → cond b (entry p.stages (sum_to (t - 1) (length_of p) + k) no_stage) no_stage ≡ cond b (get_or p.stages (index_of p t k) no_stage) no_stage
read p t k (holding h) = entry_from_0 p.stages (sum_to (t - 1) (length_of p)) k no_stage h.1.0
read p t k (failing h) = refl

stage_read : (p : Plan) (t k : ℕ) → stage_of p t k ≡ cond (is_stage p t k) (get_or p.stages (index_of p t k) no_stage) no_stage
unfolding stage_of is_stage
stage_read p t k = read p t k (decides_stage p t k)

-- in a plan without demands and weights each stage is none
pub blank_stage : (p : Plan) (t k : ℕ) → p.stages ≡ replicate max_all_stages no_stage → stage_of p t k ≡ no_stage
unfolding is_stage
blank_stage p t k blank = stage_read p t k ∙ rw (blank, replicated max_all_stages (index_of p t k) no_stage) (same (is_stage p t k))
  where
    same : (b : Bool) → cond b no_stage no_stage ≡ no_stage
    same true = refl
    same false = refl

-- the plan with other stages
abbrev pub with_stages : Plan → List Stage → Plan
with_stages p xs =
    record {
      resources = p.resources;
      types = p.types;
      rows = p.rows;
      capacity = p.capacity;
      rank = p.rank;
      bound = p.bound;
      lengths = p.lengths;
      stages = xs;
    }

-- one stage of the plan made another
module _ (p : Plan) (t k : ℕ) (stage : IsStage p t k) (total : all_stages p ≤ max_all_stages) (whole : length p.stages ≡ max_all_stages)
    (new : Stage) where
  abbrev pub changed_plan : Plan
  changed_plan = with_stages p (set p.stages (index_of p t k) new)

  pub index_within : index_of p t k < length p.stages
  index_within = omega (arith, index_of_stage p t k stage, stage.1)

  pub stage_here : stage_of p t k ≡ get_or p.stages (index_of p t k) no_stage
  stage_here = stage_read p t k ∙ rw (passes (decides_stage p t k) stage) refl

  pub stage_named : stage_of changed_plan t k ≡ new
  unfolding is_stage
  stage_named =
      stage_read changed_plan t k
      ∙ rw (passes (decides_stage changed_plan t k) stage) (get_or-set_same p.stages (index_of p t k) new no_stage index_within)

  pub stage_apart : (u j : ℕ) → (¬ ((t ≡ u) × (k ≡ j))) → stage_of changed_plan u j ≡ stage_of p u j
  unfolding is_stage
  stage_apart u j apart = stage_read changed_plan u j ∙ go (decides_stage p u j) ∙ sym (stage_read p u j)
    where
      go : {b : Bool} → Decides (IsStage p u j) b
          → cond b (get_or changed_plan.stages (index_of p u j) no_stage) no_stage ≡ cond b (get_or p.stages (index_of p u j) no_stage) no_stage
      go (failing h) = refl
      go (holding h) =
          get_or-set_other p.stages (index_of p t k) (index_of p u j) new no_stage
          (λ e. apart (one_at_index p t k u j stage h (omega (arith, stage.1, h.1))))

module _ (d : Draft) (r : Record) where
  abbrev p : Plan
  p = d.plan

  abbrev next : Plan
  next = (draft_after d r).plan

  -- a record that names no stage writes the stage that stands there
  pub stages_same : r.section ≢ 4 → r.section ≢ 6 → next.stages ≡ p.stages
  unfolding draft_after
  stages_same a b = rw (ne_eqb r.section 4 a, ne_eqb r.section 6 b) (set-get_or p.stages (index_named p.lengths r) no_stage)

  pub stage_still : r.section ≢ 4 → r.section ≢ 6 → r.section ≢ 1 → r.section ≢ 3 → (t k : ℕ) → stage_of next t k ≡ stage_of p t k
  unfolding draft_after stage_of is_stage
  stage_still a b c e t k =
      let same = stages_same a b in
      rw (ne_eqb r.section 1 c, ne_eqb r.section 3 e)
      (ap (λ xs. cond (in_range t p.types && in_range k (length_of p t)) (entry xs (sum_to (t - 1) (length_of p) + k) no_stage) no_stage) same)
