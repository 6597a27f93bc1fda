-- The plan of every text fits a cell, so a cell into which a text was read holds the plan of that text, and its table as before.
use Prim.Native.Nat.{ℕ, zero, suc, ◌≤◌, ◌<◌}
use native.Mathlib.Omega.{arith}
use mathlib.Core.List.{List, [], ◌∷◌}
use mathlib.Core.Logic.{⊎_elim}
use mathlib.Core.Path.{◌≡◌, refl, sym, ap, subst}
use lib.ListN.{length, get_or, replicate}
use Rattle.model.specs.Limits.{max_rows, max_all_stages}
use Rattle.model.specs.Numbers.{Each}
use Rattle.model.specs.Plan.{no_stage, empty_plan}
use Rattle.model.specs.Soundness.{Sound}
use Rattle.model.specs.declared.Plan.{Plan}
use Rattle.model.proofs.Decide.{decided, decides_eq, decides_le}
use Rattle.model.proofs.Lists.{replicated}
use Rattle.plan_text.specs.TextQuestions.{text_number}
use Rattle.plan_text.specs.Draft.{Draft}
use Rattle.plan_text.specs.Reading.{reading}
use Rattle.plan_text.proofs.Kept.{Sizes}
use Rattle.plan_text.proofs.AcceptedText.{refused_empty, accepted_whole, accepted_sound}
use Rattle.cell_layout.specs.Layout.{cell_size, plan_in, list_in}
use Rattle.cell_layout.specs.Fitting.{StageFits, PlanFits}
use Rattle.cell_layout.specs.HostAnswers.{read_cell}
use Rattle.cell_layout.proofs.ReadBack.{plan_back, list_kept}

each_from : {A : Type 0} (P : A → Type 0) (xs : List A) (d : A) → ((i : ℕ) → P (get_or xs i d)) → Each P xs
each_from P [] d h = tt
each_from P (x ∷ xs) d h = (h zero, each_from P xs d (λ i. h (suc i)))

copies_fit : (n : ℕ) → Each StageFits (replicate n no_stage)
copies_fit zero = tt
copies_fit (suc n) = ((refl, refl), copies_fit n)

empty_fits : PlanFits empty_plan
unfolding empty_plan
empty_fits =
    record {
      capacity = refl;
      rank = refl;
      rows = refl;
      bounds = each_from (λ (b : ℕ). b < 65536) (replicate max_rows 0) 0 (λ i. subst (λ b. b < 65536) (sym (replicated max_rows i 0)) (omega arith));
      lengths = refl;
      slots = refl;
      stages = copies_fit max_all_stages;
    }

-- a bound is in range within the rows, and 0 beyond
small_bound : (p : Plan) → Sound p → (i : ℕ) → get_or p.bound i 0 < 65536
small_bound p sound i =
    ⊎_elim (λ (h : suc i ≤ p.rows). omega (arith, sound.bounds (suc i) (omega arith, h)))
    (λ (h : ¬ (suc i ≤ p.rows)). omega (arith, sound.no_more_bounds (suc i) (omega arith)))
    (decided (decides_le (suc i) p.rows))

draft_fits : (d : Draft) → Sizes d → Sound d.plan → PlanFits d.plan
draft_fits d sizes sound =
    record {
      capacity = sizes.capacity;
      rank = sizes.rank;
      rows = sizes.bound;
      bounds = each_from (λ (b : ℕ). b < 65536) d.plan.bound 0 (small_bound d.plan sound);
      lengths = sizes.lengths;
      slots = sizes.stages;
      stages = each_from StageFits d.plan.stages no_stage (λ i. (sizes.demand i, sizes.weight i));
    }

pub read_fits : (text : List ℕ) → PlanFits (reading text).plan
read_fits text = ⊎_elim accepted (λ no. subst PlanFits (sym (refused_empty text no)) empty_fits) (decided (decides_eq (text_number (reading text).answer) 0))
  where
    accepted : text_number (reading text).answer ≡ 0 → PlanFits (reading text).plan
    accepted ok =
        let w = accepted_whole text ok in
        let same = ap (λ a. a.plan) w.handed in
        subst PlanFits (sym same) (draft_fits _ w.kept.sizes (subst Sound same (accepted_sound text ok)))

module _ (text bytes : List ℕ) (h : cell_size ≤ length bytes) where
  pub plan_read : plan_in (read_cell text bytes) ≡ (reading text).plan
  unfolding read_cell
  plan_read = plan_back bytes h (reading text).plan (read_fits text)

  pub list_stays : list_in (read_cell text bytes) ≡ list_in bytes
  unfolding read_cell
  list_stays = list_kept bytes h (reading text).plan
