-- What records say of the plan that they write, after any records that were taken one by one: of the plan so far and, where they are
-- complete, of the whole.
use Prim.Native.Nat.{ℕ}
use native.Mathlib.Omega.{arith}
use mathlib.Core.List.{List}
use mathlib.Core.Logic.{◌↔◌, ⊎_elim}
use mathlib.Core.Path.{◌≡◌, refl, sym, subst}
use Rattle.model.specs.Numbers.{InRange, at}
use Rattle.model.specs.Plan.{empty_plan, demand_of, weight_of}
use Rattle.plan_text.specs.Records.{Has}
use Rattle.plan_text.specs.Meaning.{line, RecordsSaySoFar, RecordsSay, Sized}
use Rattle.plan_text.specs.TextQuestions.{Complete}
use Rattle.plan_text.specs.Draft.{draft_of, plan_of}
use Rattle.plan_text.specs.declared.Record.{Record}
use Rattle.plan_text.proofs.Kept.{Kept}
use Rattle.plan_text.proofs.RecordQuestions.{counted}
use Rattle.plan_text.proofs.Completeness.{bound_there, complete_bounds, counted_section}

module _ (rs : List Record) (kept : Kept rs (draft_of rs)) where
  -- a C that is there says the counts
  counts_said : Has rs (line 1 (plan_of rs).resources (plan_of rs).types (plan_of rs).rows 0)
      → (a b c : ℕ) → (((plan_of rs).resources ≡ a) × ((plan_of rs).types ≡ b) × ((plan_of rs).rows ≡ c)) ↔ Has rs (line 1 a b c 0)
  counts_said there a b c = (
    λ e. subst (Has rs) (λ z. line 1 (e.0 z) (e.1 z) (e.2 z) 0) there,
    λ has. let e = kept.one_count a b c has in (sym e.0, sym e.1, sym e.2),
  )

  pub says_so_far : RecordsSaySoFar rs (plan_of rs)
  unfolding demand_of weight_of empty_plan
  says_so_far =
      record {
        counts = λ a b c h. (
          λ e. (counts_said (counted rs (draft_of rs) kept (λ p. p.resources) refl (omega (arith, h, e.0))) a b c).0 e,
          λ has. let e = kept.one_count a b c has in (sym e.0, sym e.1, sym e.2),
        );
        capacities = λ r v h. (λ e. (kept.capacities r v).0 (h, e), λ has. ((kept.capacities r v).1 has).1);
        lengths = λ t v h. (λ e. (kept.lengths t v).0 (h, e), λ has. ((kept.lengths t v).1 has).1);
        demands = λ t k r v h. (λ e. (kept.demands (t, k, r) v).0 (h, e), λ has. ((kept.demands (t, k, r) v).1 has).1);
        bounds = λ w v h. (λ e. bound_there rs (draft_of rs) kept w v h e, λ has. ((kept.bounds w v).1 has).1);
        weights = λ w t k v h. (λ e. (kept.weights (t, k, w) v).0 (h, e), λ has. ((kept.weights (t, k, w) v).1 has).1);
        ranks = λ r v h. (λ e. (kept.ranks r v).0 (h, e), λ has. ((kept.ranks r v).1 has).1);
      }

  -- a row of the plan has its bound
  marked : Complete rs → (w : ℕ) → InRange w (plan_of rs).rows → at (draft_of rs).bounded w ≡ 1
  marked c w within =
      ⊎_elim (λ (m : at (draft_of rs).bounded w ≡ 1). m) (λ m. absurd (omega (arith, m.0, complete_bounds rs kept c w within))) (kept.flags w)

  pub records_say : Complete rs → RecordsSay rs (plan_of rs)
  records_say c =
      record {
        so_far = says_so_far;
        counts = counts_said (kept.counted (counted_section rs (draft_of rs) kept _ _ _ c.counts.3));
        bounds = λ w v within. (λ e. (kept.bounds w v).0 (marked c w within, e), λ has. ((kept.bounds w v).1 has).1);
      }

  pub records_sized : Sized (plan_of rs)
  records_sized =
      let sizes = kept.sizes in
      record {
        capacity = sizes.capacity;
        rank = sizes.rank;
        bound = sizes.bound;
        lengths = sizes.lengths;
        stages = sizes.stages;
        demand = sizes.demand;
        weight = sizes.weight;
      }
