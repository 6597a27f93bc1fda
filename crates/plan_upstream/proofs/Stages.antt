-- The laws behind questions 21 and 22: a sound plan ranks every resource or none, and the first entry that does not demand one
-- unit is the lowest faulty stage, or the end of the stages.
use Prim.Native.Nat.{ℕ, suc, ◌+◌, ◌-◌, ◌≤◌, ◌<◌}
use native.Mathlib.Numerals.{add-one}
use native.Mathlib.Omega.{arith}
use mathlib.Core.Bool.{Bool, true, false, false≢true, true≢false}
use mathlib.Core.Logic.{⊎_elim}
use mathlib.Core.Path.{◌≡◌, refl, sym, ◌∙◌}
use lib.Dec.{leb, eqb}
use borrow.Author.Tests.{eqb-true, eq-eqb, ne_eqb, le-leb, lt-leb}
use Rattle.model.specs.Limits.{max_all_stages}
use Rattle.model.specs.Numbers.{InRange, at, entry, sum_to, all_to, lowest}
use Rattle.model.specs.Plan.{no_stage, rank_of, length_of, IsStage, all_stages, demand_of}
use Rattle.model.specs.Soundness.{AllRanked, NoneRanked, Sound}
use Rattle.model.specs.Upstream.{one_unit, faulty_stage, faulty_type}
use Rattle.model.specs.declared.Plan.{Plan}
use Rattle.model.proofs.Decide.{Decides, holding, failing, holds, passes, decided, decides_le, decides_all, decides_lowest}
use Rattle.model.proofs.Flat.{flat_index, flat_before, stage_at_lem, index_of_stage, index_within}
use Rattle.model.proofs.Search.{all_fails, lowest_at}
use Rattle.model.proofs.Sums.{sum_zero}
use Rattle.plan_upstream.specs.CheckInternals.{Stands, unit_entry, FirstOther}
use Rattle.plan_upstream.specs.declared.position.Position.{Position}

decides_test : (b : Bool) → Decides (b ≡ true) b
decides_test true = holding refl
decides_test false = failing false≢true

module _ (n : ℕ) (f : ℕ → Bool) where
  all_at : all_to n f ≡ true → (i : ℕ) → InRange i n → f i ≡ true
  all_at e = holds (decides_all (λ i. f i ≡ true) f n (λ i h. decides_test (f i))) e

  lowest_none : ((i : ℕ) → InRange i n → f i ≡ true) → lowest n f ≡ 0
  lowest_none h = eqb-true _ 0 (passes (decides_lowest (λ i. f i ≡ true) f n (λ i g. decides_test (f i))) h)

module _ (p : Plan) (sound : Sound p) where
  pub first_rank : all_to p.resources (λ (r : ℕ). leb 1 (rank_of p r)) ≡ leb 1 (rank_of p 1)
  first_rank = ⊎_elim all none sound.ranks
    where
      one : InRange 1 p.resources
      one = (omega arith, sound.resources.0)

      all : AllRanked p → all_to p.resources (λ (r : ℕ). leb 1 (rank_of p r)) ≡ leb 1 (rank_of p 1)
      all h =
          passes (decides_all _ _ p.resources (λ r g. decides_le 1 (rank_of p r))) (λ r g. (h r g).0)
          ∙ sym (le-leb 1 (rank_of p 1) (h 1 one).0)

      none : NoneRanked p → all_to p.resources (λ (r : ℕ). leb 1 (rank_of p r)) ≡ leb 1 (rank_of p 1)
      none h =
          let first : leb 1 (rank_of p 1) ≡ false = lt-leb 1 (rank_of p 1) (omega (arith, h 1 one)) in
          all_fails (λ (r : ℕ). leb 1 (rank_of p r)) p.resources 0 sound.resources.0 first ∙ sym first

  -- where the entries before an index demand one unit each
  module _ (index : ℕ) (first : FirstOther p index) where
    unit_at : (t k : ℕ) → IsStage p t k → one_unit p t k ≡ unit_entry p (flat_index (length_of p) t k)
    unfolding one_unit demand_of
    unit_at t k h = rw (stage_at_lem p t k h) refl

    passed : (t k : ℕ) → IsStage p t k → flat_index (length_of p) t k ≤ index → one_unit p t k ≡ true
    passed t k h l = unit_at t k h ∙ all_at index (unit_entry p) first.before _ ((index_of_stage p t k h).0, l)

    type_passed : (t : ℕ) → InRange t p.types → ((k : ℕ) → InRange k (length_of p t) → flat_index (length_of p) t k ≤ index) → faulty_stage p t ≡ 0
    unfolding faulty_stage
    type_passed t h l = lowest_none (length_of p t) (one_unit p t) (λ k g. passed t k (h, g) (l k g))

    module _ (a : Position) (at-index : Stands p.lengths p.types index a) where
      indexed : index ≡ sum_to a.kind (length_of p) + a.stage
      indexed = at-index.indexed

      -- at a stage, it is the lowest that does not
      pub faulty : (faulty_type p ≡ a.kind + 1) × (faulty_stage p (a.kind + 1) ≡ a.stage + 1)
      unfolding faulty_type faulty_stage
      faulty =
          let h : a.kind < p.types = at-index.of_type in
          let t = suc a.kind in
          let before : t - 1 ≡ a.kind = omega arith in
          let more : a.stage < length_of p t = at-index.of_stage in
          let here : index + 1 ≡ flat_index (length_of p) t (suc a.stage) = rw before (omega (arith, indexed)) in
          let stage : IsStage p t (suc a.stage) = ((omega arith, h), (omega arith, more)) in
          let inside : index < max_all_stages = index_within p sound t (suc a.stage) stage index here in
          let other : one_unit p t (suc a.stage) ≡ false = unit_at t (suc a.stage) stage ∙ rw (← here, add-one) (first.here inside) in
          let stages : faulty_stage p t ≡ a.stage + 1 =
          lowest_at (one_unit p t) (length_of p t) a.stage more
          (lowest_none a.stage (one_unit p t) (λ k g. passed t k ((omega arith, h), (g.0, omega arith)) (rw before (omega (arith, indexed))))) other in
          let types : lowest a.kind (λ (u : ℕ). eqb (faulty_stage p u) 0) ≡ 0 =
          lowest_none a.kind _ (λ u g. eq-eqb _ 0 (type_passed u (g.0, omega arith)
          (λ k r. omega (arith, indexed, flat_before (length_of p) u k a.kind g.0 g.1 r.1)))) in (
            lowest_at (λ (u : ℕ). eqb (faulty_stage p u) 0) p.types a.kind h types (ne_eqb (faulty_stage p t) 0 (λ e. omega (arith, stages, e))),
            rw (add-one a.kind) stages,
          )

    -- past the last type there is none, and it is the end
    module _ (past : all_stages p ≤ index) where
      pub none_faulty : faulty_type p ≡ 0
      unfolding faulty_type
      none_faulty =
          lowest_none p.types _ (λ t h. eq-eqb _ 0 (type_passed t h (λ k g. omega (arith, past, index_of_stage p t k (h, g)))))

      pub at_end : index ≡ all_stages p
      at_end =
          ⊎_elim (λ (l : index ≤ all_stages p). omega (arith, past)) (λ (l : ¬ (index ≤ all_stages p)). absurd (beyond l))
          (decided (decides_le index (all_stages p)))
        where
          empty : sum_to p.resources (at (entry p.stages (suc (all_stages p)) no_stage).demand) ≡ 0
          empty = sum_zero _ p.resources (λ i h. (sound.no_more_stages (suc (all_stages p)) (omega arith)).0 i h.0)

          beyond : (¬ (index ≤ all_stages p)) → ⊥
          beyond h =
              let unit = all_at index (unit_entry p) first.before (suc (all_stages p)) (omega arith, omega arith) in
              true≢false (sym unit ∙ rw empty refl)
