-- Question 7: after records that were taken one by one the plan is sound, and every row has its bound, exactly when the records
-- are complete. What a sound plan asks beyond that holds of every draft.
use Prim.Native.Nat.{ℕ, zero, suc, ◌≤◌, ◌<◌}
use native.Mathlib.Omega.{arith}
use mathlib.Core.List.{List}
use mathlib.Core.Logic.{◌⊎◌, inl, inr, ⊎_elim, ◌↔◌}
use mathlib.Core.Path.{◌≡◌, refl, ap}
use Rattle.model.specs.Limits.{max_stages, max_units, max_bound}
use Rattle.model.specs.Numbers.{InRange, entry, at}
use Rattle.model.specs.Plan.{no_stage, empty_plan, capacity_of, rank_of, bound_of, length_of, all_stages, stage_of, demand_of, weight_of}
use Rattle.model.specs.Soundness.{EmptyStage, AllRanked, NoneRanked, SoundStage, Sound}
use Rattle.model.specs.declared.Plan.{Plan}
use Rattle.model.proofs.Decide.{Decides, decided, holds, decides_iff, decides_eq, decides_le, decides_all, ◌and◌}
use Rattle.model.proofs.Soundness.{decides_sound, decides_empty_stage}
use Rattle.plan_text.specs.Records.{Has}
use Rattle.plan_text.specs.RecordTests.{known_of}
use Rattle.plan_text.specs.ReaderInternals.{InKnown}
use Rattle.plan_text.specs.Draft.{Draft, empty_draft, draft_of}
use Rattle.plan_text.specs.TextQuestions.{IsResource, Complete}
use Rattle.plan_text.specs.Reading.{is_complete}
use Rattle.plan_text.specs.Meaning.{line, C, R, T, S, K}
use Rattle.plan_text.specs.declared.Record.{Record}
use Rattle.plan_text.proofs.RecordLists.{has_each}
use Rattle.plan_text.proofs.Kept.{Entry, Slot, Half, demand_half, weight_half, InSlot, Ranged, Kept}
use Rattle.plan_text.proofs.KeptAfter.{counts_fit}
use Rattle.plan_text.proofs.RecordQuestions.{resource_told, type_told, row_told, stage_told, no_more_types}

-- a value that no record gives is 0
none_zero : (x : ℕ) → ((v : ℕ) → 1 ≤ v → x ≡ v → ⊥) → x ≡ 0
none_zero x h = ⊎_elim (λ (e : x ≡ 0). e) (λ (ne : ¬ (x ≡ 0)). absurd (h x (omega (arith, ne)) refl)) (decided (decides_eq x 0))

-- a value up to a limit, where each record's is
some_within : (x limit : ℕ) → ((v : ℕ) → 1 ≤ v → x ≡ v → v ≤ limit) → x ≤ limit
some_within x limit h = ⊎_elim (λ (e : x ≡ 0). omega arith) (λ (ne : ¬ (x ≡ 0)). h x (omega (arith, ne)) refl) (decided (decides_eq x 0))

module _ (rs : List Record) (d : Draft) (kept : Kept rs d) where
  abbrev p : Plan
  p = d.plan

  -- a record that is there is in range
  fit : (q : Record) → Has rs q → InKnown (known_of p) q
  fit q h = (has_each (Ranged (known_of p)) rs q kept.ranged h).ranges

  zero_of : (n : ℕ) (xs : List ℕ) → ((i v : ℕ) → Entry xs i v ↔ Has rs (line n i v 0 0)) → (i : ℕ) → ((v : ℕ) → ¬ Has rs (line n i v 0 0)) → at xs i ≡ 0
  zero_of n xs held i none = none_zero (at xs i) (λ v h e. none v ((held i v).0 (h, e)))

  stage_zero : (h : Half) → ((k : Slot) (v : ℕ) → InSlot h p k v ↔ Has rs (h.of k v)) → (t k i : ℕ) → ((v : ℕ) → ¬ Has rs (h.of (t, k, i) v))
      → at (h.part (stage_of p t k)) i ≡ 0
  stage_zero h held t k i none = none_zero _ (λ v a e. none v ((held (t, k, i) v).0 (a, e)))

  pub counted_section : (a b c : ℕ) → Has rs (C a b c) → 1 ≤ d.section
  counted_section a b c h =
      ⊎_elim (λ (e : d.section ≡ 0). absurd (rw (kept.fresh e).0 at h)) (λ ne. omega (arith, ne)) (decided (decides_eq d.section 0))

  sound_stage : (t k r v : ℕ) → Has rs (S t k r v) → SoundStage p t k
  unfolding demand_of weight_of
  sound_stage t k r v h =
      let there = (kept.demands (t, k, r) v).1 h in
      record {
        demands = λ i within. some_within _ _ (λ u a e. (fit (line 4 t k i u) ((kept.demands (t, k, i) u).0 (a, e))).1.1.1.0.1);
        some = (r, (fit (S t k r v) h).1.1.0, omega (arith, there));
        weights = λ w within. some_within _ _ (λ u a e. (fit (line 6 w t k u) ((kept.weights (t, k, w) u).0 (a, e))).1.1.1.0.1);
        no_more_demands = λ i beyond. stage_zero demand_half kept.demands t k i (λ u has. omega (arith, (fit (line 4 t k i u) has).1.1.0, beyond));
        no_more_weights = λ w beyond. stage_zero weight_half kept.weights t k w (λ u has. omega (arith, (fit (line 6 w t k u) has).0, beyond));
      }

  -- ranks for all resources or for none
  abbrev Ranks : Type 0
  Ranks = ((i : ℕ) → IsResource rs i → (v : ℕ) × Has rs (K i v)) ⊎ ((i v : ℕ) → ¬ Has rs (K i v))

  -- a value that a record of two numbers says is the entry, in its range
  pair_within : (n high i v : ℕ) (xs : List ℕ) → ((j u : ℕ) → Entry xs j u ↔ Has rs (line n j u 0 0)) → Has rs (line n i v 0 0) → v ≤ high → InRange (at xs i) high
  pair_within n high i v xs held has most = let there = (held i v).1 has in (omega (arith, there), omega (arith, there, most))

  sound_ranks : Ranks → AllRanked p ⊎ NoneRanked p
  sound_ranks (inl all) =
      inl (λ i within.
      let found = all i ((resource_told rs d kept i).0 within) in
      pair_within 7 max_units i found.0 p.rank kept.ranks found.1 (fit (K i found.0) found.1).1.0.1)
  sound_ranks (inr none) = inr (λ i within. zero_of 7 p.rank kept.ranks i (none i))

  -- a row with a bound above 0 has its record
  pub bound_there : (w v : ℕ) → 1 ≤ v → bound_of p w ≡ v → Has rs (line 5 w v 0 0)
  bound_there w v a e =
      (kept.bounds w v).0 (⊎_elim (λ (m : at d.bounded w ≡ 1). m) (λ m. absurd (omega (arith, m.1, a, e))) (kept.flags w), e)

  beyond_empty : (i : ℕ) → all_stages p < i → EmptyStage (entry p.stages i no_stage)
  beyond_empty zero h = absurd (omega arith)
  beyond_empty (suc i) h = rw (kept.beyond i (omega arith)) (holds (decides_empty_stage no_stage) refl)

  -- the records are complete, and the plan is sound
  module _ (c : Complete rs) where
    sound_plan : Sound p
    sound_plan =
        let few = counts_fit rs d kept (counted_section _ _ _ c.counts.3) in
        record {
          resources = few.0;
          types = few.1;
          rows = few.2;
          capacities = λ i within.
              let found = c.capacities i ((resource_told rs d kept i).0 within) in
              pair_within 2 max_units i found.0 p.capacity kept.capacities found.1 (fit (R i found.0) found.1).1.0.1;
          ranks = sound_ranks c.ranks;
          bounds = λ w within. some_within _ _ (λ v a e. bound_within w v a e);
          lengths = λ t within.
              let found = c.lengths t ((type_told rs d kept t).0 within) in
              pair_within 3 max_stages t found.0 p.lengths kept.lengths found.1 (fit (T t found.0) found.1).1.0.1;
          total = kept.total;
          stages = λ t k is. let found = c.demands t k ((stage_told rs d kept t k).0 is.1) in sound_stage t k found.0 found.1 found.2;
          no_more_capacities = λ i beyond. zero_of 2 p.capacity kept.capacities i (λ v has. omega (arith, (fit (line 2 i v 0 0) has).0, beyond));
          no_more_ranks = λ i beyond. zero_of 7 p.rank kept.ranks i (λ v has. omega (arith, (fit (line 7 i v 0 0) has).0, beyond));
          no_more_bounds = λ w beyond. none_zero (bound_of p w) (λ v a e. bound_beyond w v beyond a e);
          no_more_lengths = no_more_types rs d kept;
          no_more_stages = beyond_empty;
        }
      where
        bound_within : (w v : ℕ) → 1 ≤ v → bound_of p w ≡ v → v ≤ max_bound
        bound_within w v a e = (fit (line 5 w v 0 0) (bound_there w v a e)).1.0.1

        bound_beyond : (w v : ℕ) → p.rows < w → 1 ≤ v → bound_of p w ≡ v → ⊥
        bound_beyond w v beyond a e = omega (arith, (fit (line 5 w v 0 0) (bound_there w v a e)).0, beyond)

module _ (rs : List Record) (kept : Kept rs (draft_of rs)) where
  abbrev draft : Draft
  draft = draft_of rs

  abbrev plan : Plan
  plan = draft.plan

  abbrev Bounds : Type 0
  Bounds = (w : ℕ) → InRange w plan.rows → 1 ≤ at draft.bounded w

  pub complete_sound : Complete rs → Sound plan
  complete_sound = sound_plan rs draft kept

  pub complete_bounds : Complete rs → Bounds
  complete_bounds c w within =
      let found = c.bounds w ((row_told rs draft kept w).0 within) in
      omega (arith, ((kept.bounds w found.0).1 found.1).0)

  no_counts : draft.section ≡ 0 → plan.resources ≡ 0
  unfolding empty_draft empty_plan
  no_counts e = ap (λ (d : Draft). d.plan.resources) (kept.fresh e).1

  ranks_told : AllRanked plan ⊎ NoneRanked plan → Ranks rs draft kept
  ranks_told (inl all) =
      inl (λ i is. (rank_of plan i, (kept.ranks i (rank_of plan i)).0 ((all i ((resource_told rs draft kept i).1 is)).0, refl)))
  ranks_told (inr none) =
      inr (λ i v h. omega (arith, (kept.ranks i v).1 h, none i (fit rs draft kept (K i v) h).0))

  sound_complete : Sound plan → Bounds → Complete rs
  unfolding demand_of
  sound_complete s bounds =
      record {
        counts = (
          _,
          _,
          _,
          kept.counted (⊎_elim (λ (e : draft.section ≡ 0). absurd (omega (arith, no_counts e, s.resources))) (λ ne. omega (arith, ne))
              (decided (decides_eq draft.section 0))),
        );
        capacities = λ i is. (capacity_of plan i, (kept.capacities i (capacity_of plan i)).0 ((s.capacities i ((resource_told rs draft kept i).1 is)).0, refl));
        lengths = λ t is. (length_of plan t, (kept.lengths t (length_of plan t)).0 ((s.lengths t ((type_told rs draft kept t).1 is)).0, refl));
        demands = λ t k is.
            let some = (s.stages t k ((fit rs draft kept (T t is.0) is.1).0, (stage_told rs draft kept t k).1 is)).some in
            let v = demand_of plan some.0 t k in
            (some.0, v, (kept.demands (t, k, some.0) v).0 (some.2, refl));
        bounds = λ w is.
            let within = (row_told rs draft kept w).1 is in (
              bound_of plan w,
              (kept.bounds w (bound_of plan w)).0
                  (⊎_elim (λ (m : at draft.bounded w ≡ 1). m) (λ m. absurd (omega (arith, m.0, bounds w within))) (kept.flags w), refl),
            );
        ranks = ranks_told s.ranks;
      }

  pub decides_complete : Decides (Complete rs) (is_complete draft)
  unfolding is_complete
  decides_complete =
      decides_iff (λ h. sound_complete h.0 h.1) (λ c. (complete_sound c, complete_bounds c))
      (decides_sound plan and decides_all _ _ plan.rows (λ w h. decides_le 1 (at draft.bounded w)))
