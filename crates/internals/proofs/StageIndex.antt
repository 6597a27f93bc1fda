-- Where a stage stands among all stages, as the code counts it from 0: there stands the stage that the definitions read, and
-- within the 128 where the plan is sound.
use Prim.Native.Nat.{ℕ, zero, suc, ◌+◌, ◌-◌, ◌≤◌, ◌<◌}
use native.Mathlib.Omega.{arith}
use mathlib.Core.Bool.{Bool, cond, ◌&&◌}
use mathlib.Core.List.{List}
use mathlib.Core.Path.{◌≡◌, refl, sym, ap, ◌∙◌}
use lib.ListN.{length, get_or, get_or-eq_default}
use Rattle.model.specs.Limits.{max_all_stages}
use Rattle.model.specs.Numbers.{InRange, in_range, entry, at, sum_to}
use Rattle.model.specs.Plan.{no_stage, length_of, IsStage, is_stage, stage_of}
use Rattle.model.specs.Jobs.{HasNext, advanced_job, AtStage}
use Rattle.model.specs.Soundness.{Sound}
use Rattle.model.specs.declared.Plan.{Plan}
use Rattle.model.specs.declared.Stage.{Stage}
use Rattle.model.specs.declared.Job.{Job}
use Rattle.model.proofs.Decide.{Decides, holding, failing, fails, passes, decides_range, ◌and◌}
use Rattle.model.proofs.Flat as flat
use Rattle.model.proofs.Flat.{flat_index}
use Rattle.internals.specs.Internals.{stage_index, index_in}
use Rattle.internals.proofs.FixedWidth.{at_named}

module _ (lengths : List ℕ) (types t k : ℕ) where
  is_stage_lem : Decides (InRange t types × InRange k (at lengths t)) (in_range t types && in_range k (at lengths t))
  is_stage_lem = decides_range t types and decides_range k (at lengths t)

  pub index_none : (¬ (InRange t types × InRange k (at lengths t))) → index_in lengths types t k ≡ max_all_stages
  index_none h = rw (fails is_stage_lem h) refl

  -- type 0 has no stages
  pub index_there : t ≤ types → InRange k (at lengths t) → index_in lengths types t k ≡ stage_index lengths t k
  index_there low h = rw (passes is_stage_lem ((at_named lengths t (omega arith), low), h)) refl

-- what stands there in a plan
module _ (p : Plan) (t k : ℕ) where
  abbrev number : ℕ
  number = sum_to (t - 1) (length_of p) + k

  entry_index : 1 ≤ k → entry p.stages number no_stage ≡ get_or p.stages (stage_index p.lengths t k) no_stage
  unfolding stage_index
  entry_index h = go (sum_to (t - 1) (length_of p)) k h
    where
      go : (s k : ℕ) → 1 ≤ k → entry p.stages (s + k) no_stage ≡ get_or p.stages (s + (k - 1)) no_stage
      go s zero h = absurd (omega arith)
      go s (suc k) h = let e : s + suc k ≡ suc (s + (suc k - 1)) = omega arith in rw e refl

  pub stage_named : IsStage p t k → stage_of p t k ≡ get_or p.stages (stage_index p.lengths t k) no_stage
  stage_named h = flat.stage_at_lem p t k h ∙ entry_index h.1.0

module _ (p : Plan) (whole : length p.stages ≡ max_all_stages) (t k : ℕ) where
  abbrev index : ℕ
  index = index_in p.lengths p.types t k

  pub stands : stage_of p t k ≡ get_or p.stages index no_stage
  unfolding stage_of is_stage
  stands = go (is_stage_lem p.lengths p.types t k)
    where
      Same : Bool → Type 0
      Same b =
          cond b (entry p.stages (number p t k) no_stage) no_stage ≡ get_or p.stages (cond b (stage_index p.lengths t k) max_all_stages) no_stage

      go : {b : Bool} → Decides (IsStage p t k) b → Same b
      go (holding h) = entry_index p t k h.1.0
      go (failing h) = sym (get_or-eq_default p.stages no_stage (omega arith))

-- the next stage of a type stands behind the one before it
pub index_next : (lengths : List ℕ) (t k : ℕ) → 1 ≤ k → stage_index lengths t k + 1 ≡ stage_index lengths t (k + 1)
unfolding stage_index
index_next lengths t k h = omega arith

-- of a stage of a sound plan
module _ (p : Plan) (sound : Sound p) (t k : ℕ) (stage : IsStage p t k) where
  counted : stage_index p.lengths t k + 1 ≡ flat_index (length_of p) t k
  unfolding stage_index
  counted = omega (arith, stage.1)

  pub index_within : stage_index p.lengths t k < max_all_stages
  index_within = flat.index_within p sound t k stage (stage_index p.lengths t k) counted

  pub stage_read : (d : Stage) → length p.stages ≡ max_all_stages → get_or p.stages (stage_index p.lengths t k) d ≡ stage_of p t k
  stage_read = flat.stage_there p sound t k stage (stage_index p.lengths t k) counted

-- the stage of a job and the next one, where the code reads them
module _ (p : Plan) (sound : Sound p) (j : Job) (staged : AtStage p j) (more : HasNext p j) where
  abbrev Index : ℕ → Type 0
  Index i = i ≡ stage_index p.lengths j.kind j.stage

  next_staged : AtStage p (advanced_job p j)
  next_staged = (staged.0, omega arith)

  to_index : (i : ℕ) → Index i → i + 1 ≡ stage_index p.lengths j.kind (j.stage + 1)
  to_index i here = ap (λ n. n + 1) here ∙ index_next p.lengths j.kind j.stage staged.1.0

  module _ (i : ℕ) (here : Index i) where
    pub to_within : i + 1 < max_all_stages
    to_within = rw (to_index i here) (index_within p sound j.kind (j.stage + 1) next_staged)

    module _ (d : Stage) (slots : length p.stages ≡ max_all_stages) where
      pub old_read : get_or p.stages i d ≡ stage_of p j.kind j.stage
      old_read = ap (λ n. get_or p.stages n d) here ∙ stage_read p sound j.kind j.stage staged d slots

      pub new_read : get_or p.stages (i + 1) d ≡ stage_of p j.kind (j.stage + 1)
      new_read = ap (λ n. get_or p.stages n d) (to_index i here) ∙ stage_read p sound j.kind (j.stage + 1) next_staged d slots
