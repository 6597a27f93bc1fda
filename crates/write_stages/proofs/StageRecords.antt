-- The records put for the stages one behind the other are those of the plan's demands and of its weights, and there are none where the bytes
-- are not those of all stages.
use Prim.Native.Nat.{ℕ, zero, suc, ◌+◌, ◌-◌, ◌≤◌, ◌<◌}
use native.Mathlib.Numerals.{add-one}
use native.Mathlib.Omega.{arith}
use mathlib.Core.List.{List, []}
use mathlib.Core.Logic.{◌≢◌}
use mathlib.Core.Path.{◌≡◌, refl, sym, ap, ◌∙◌}
use lib.ListN.{length}
use Rattle.std.specs.Prelude.{Option, None, Some}
use Rattle.model.specs.Limits.{max_all_stages}
use Rattle.model.specs.Numbers.{InRange, at, sum_to}
use Rattle.model.specs.Plan.{no_stage, length_of, stage_of, demand_of, weight_of}
use Rattle.model.specs.declared.Plan.{Plan}
use Rattle.model.specs.declared.Stage.{Stage}
use Rattle.model.proofs.Lists.{zeros_at}
use Rattle.internals.specs.Internals.{stage_index}
use Rattle.internals.proofs.StageIndex.{stage_named}
use Rattle.plan_bytes.specs.Over.{stages_size, plan_read, plan_over}
use Rattle.plan_bytes.specs.declared.Frame.{Frame}
use Rattle.plan_bytes.proofs.Nothing.{no_demand, no_weight}
use Rattle.plan_bytes.proofs.Over.{over_whole, over_none}
use Rattle.plan_bytes.proofs.StageBytes.{stage_beyond}
use Rattle.plan_text.specs.Meaning.{S, A}
use Rattle.canonical_text.specs.CanonicalText.{list_to, valued, demand_records, type_weights}
use Rattle.write_stages.specs.StageRecords.{stage_read, stage_records, records_from, type_records, plan_stages}

list_same : {A : Type 0} (n : ℕ) (f g : ℕ → List A) → ((i : ℕ) → InRange i n → f i ≡ g i) → list_to n f ≡ list_to n g
list_same zero f g e = refl
list_same (suc n) f g e = rw (list_same n f g (λ i h. e i (h.0, omega (arith, h))), e (suc n) (omega arith, omega arith)) refl

list_none : {A : Type 0} (n : ℕ) (f : ℕ → List A) → ((i : ℕ) → f i ≡ []) → list_to n f ≡ []
list_none zero f e = refl
list_none (suc n) f e = rw (list_none n f e, e (suc n)) refl

-- where the next type begins
pub first_next : (f : ℕ → ℕ) (t : ℕ) {first count : ℕ} → first ≡ sum_to t f → count ≡ f (t + 1) → first + count ≡ sum_to (t + 1) f
first_next f t here many = rw (here, many, add-one) refl

-- of a stage that demands and weighs nothing
records_none : (resources : ℕ) (row : Option ℕ) (t k : ℕ) (s : Stage) → ((r : ℕ) → at s.demand r ≡ 0) → ((w : ℕ) → at s.weight w ≡ 0)
    → stage_records resources row t k s ≡ []
unfolding stage_records
records_none resources None t k s idle light = list_none resources _ (λ r. ap (λ v. valued v (S t k r)) (idle r))
records_none resources (Some row) t k s idle light = ap (λ v. valued v (A row t k)) (light row)

-- beyond the last stage
pub records_beyond : (bytes : List ℕ) (resources : ℕ) (row : Option ℕ) (t k i : ℕ) → max_all_stages ≤ i → stage_records resources row t k (stage_read bytes i) ≡ []
unfolding stage_read
records_beyond bytes resources row t k i h =
    ap (stage_records resources row t k) (stage_beyond bytes i no_stage h)
    ∙ records_none resources row t k no_stage (zeros_at 32) (zeros_at 32)

module _ (f : Frame) (bytes : List ℕ) where
  pub stages_none : (row : Option ℕ) → length bytes ≢ stages_size → plan_stages (plan_over f bytes) row ≡ []
  unfolding demand_of weight_of
  stages_none row h = ap (λ p. plan_stages p row) (over_none f bytes h) ∙ none
    where
      p : Plan
      p = plan_read f []

      none : plan_stages p row ≡ []
      none =
          list_none p.types _
          (λ t. list_none (length_of p t) _ (λ k. records_none p.resources row t k (stage_of p t k) (λ r. no_demand f r t k) (λ w. no_weight f w t k)))

  -- of the next type, by where its first stage stands and how many it has
  pub type_told : (row : Option ℕ) (t first count : ℕ) → length bytes ≡ stages_size → t < f.types → first ≡ sum_to t (at f.lengths) → count ≡ at f.lengths (t + 1)
      → records_from bytes f.resources row (t + 1) first count ≡ type_records (plan_over f bytes) row (t + 1)
  unfolding plan_read stage_read stage_index
  type_told row t first count whole within here many =
      let p = plan_read f bytes in
      let before : sum_to t (at f.lengths) ≡ sum_to (t + 1 - 1) (at f.lengths) = let e : t + 1 - 1 ≡ t = omega arith in rw e refl in
      rw (many, here, before)
      (list_same (at f.lengths (t + 1)) _ _
      (λ k staged. ap (stage_records f.resources row (t + 1) k) (sym (stage_named p (t + 1) k ((omega arith, omega arith), staged))))
      ∙ ap (λ (q : Plan). type_records q row (t + 1)) (sym (over_whole f bytes whole)))

module _ (p : Plan) where
  pub demands_told : plan_stages p None ≡ demand_records p
  unfolding demand_of stage_records
  demands_told = refl

  pub weights_told : (row : ℕ) → plan_stages p (Some row) ≡ list_to p.types (type_weights p row)
  unfolding weight_of stage_records
  weights_told row = refl
