-- Law 3: the check answers 0 exactly when the upstream rule holds, and each refusal names the first question that fails
-- and the lowest place where it does: each computed question decides its worded one, and the search behind it finds the
-- lowest place.
use Prim.Native.Nat.{ℕ, ◌-◌, ◌≤◌}
use native.Mathlib.Omega.{arith}
use mathlib.Core.Bool.{Bool, cond, ◌||◌}
use mathlib.Core.Logic.{◌↔◌}
use mathlib.Core.Path.{◌≡◌, refl, ap}
use lib.Dec.{eqb}
use Rattle.model.specs.Numbers.{InRange, in_range, Lowest}
use Rattle.model.specs.Questions.{AllHold, FirstFailure}
use Rattle.model.specs.Plan.{capacity_of, rank_of, bound_of, length_of, demand_of, weight_of}
use Rattle.model.specs.Upstream.{RankedUpTo, UpstreamOf, OneUnit, OneUnits, UpstreamRow, UpstreamBound, UpstreamRule}
use Rattle.model.specs.Upstream.{check_conditions, check_questions, check, is_meets, CheckSays}
use Rattle.model.specs.Upstream.{ranked_up_to, upstream_of, one_unit, faulty_stage, faulty_type, upstream_row, faulty_row, faulty_bound}
use Rattle.model.specs.declared.Plan.{Plan}
use Rattle.model.specs.declared.Check.TheVariants.{Meets, NotOneUnit, WrongWeight, WrongBound}
use Rattle.model.proofs.Decide.{Decides, holding, failing, decides_iff, ◌and◌, decides_le, decides_lt, decides_eq, decides_range}
use Rattle.model.proofs.Decide.{decides_all, decides_some, decides_lowest, lowest_found}
use Rattle.model.proofs.Decide.{Answers, done, asked, first_failure, accepted, all_hold}
use Rattle.model.proofs.Sums.{decides_single}
use Rattle.model.proofs.Soundness.{decides_stages, decides_sound}

pub decides_one_unit : (p : Plan) (t k : ℕ) → Decides (OneUnit p t k) (one_unit p t k)
unfolding one_unit
decides_one_unit p t k =
    decides_iff (λ s. record { resource = s.0; within = s.1; one = s.2; others = s.3 }) (λ u. (u.resource, u.within, u.one, u.others))
    (decides_single (λ r. demand_of p r t k) p.resources)

pub decides_ranked_up_to : (p : Plan) (target t k : ℕ) → Decides (RankedUpTo p target t k) (ranked_up_to p target t k)
unfolding ranked_up_to
decides_ranked_up_to p target t k =
    decides_iff (λ h. (h.0, h.1, h.2.0, h.2.1)) (λ h. (h.0, h.1, (h.2, h.3)))
    (decides_some _ _ p.resources (λ r h. decides_le 1 (demand_of p r t k) and decides_le (rank_of p r) (rank_of p target)))

-- what is asked only where P does not hold
decides_unless : {P Q : Type 0} {a b : Bool} → Decides P a → Decides Q b → Decides ((¬ P) → Q) (a || b)
decides_unless (holding h) d = holding (λ k. absurd (k h))
decides_unless (failing h) (holding k) = holding (λ _. k)
decides_unless (failing h) (failing k) = failing (λ g. k (g h))

-- stage 0 is none of the type, yet a stage may stand at its index: the one before the type's first
pub decides_upstream : (p : Plan) (resource t k : ℕ) → 1 ≤ k → Decides (UpstreamOf p resource t k) (upstream_of p resource t k)
unfolding upstream_of
decides_upstream p resource t k first =
    decides_iff
    (λ h. record { q = h.0; from = h.2.0.0; within = h.1; demands = h.2.0.1; between = λ i low high. h.2.1 i (omega arith) (omega arith) })
    (λ u. (u.q, u.within, ((u.from, u.demands), λ i h low. u.between i (omega arith) (omega arith))))
    (decides_some _ _ (length_of p t) (λ q h.
    decides_le k q
    and decides_le 1 (demand_of p resource t q)
    and decides_all _ _ (q - 1) (λ i _. decides_unless (decides_lt i k) (decides_ranked_up_to p resource t i))))

-- a number that is to be 1 where U holds and 0 where it does not
decides_indicator : {U : Type 0} {b : Bool} (w : ℕ) → Decides U b → Decides ((U → w ≡ 1) × ((¬ U) → w ≡ 0)) (eqb w (cond b 1 0))
decides_indicator w (holding u) = decides_iff (λ e. (λ _. e, λ n. absurd (n u))) (λ h. h.0 u) (decides_eq w 1)
decides_indicator w (failing n) = decides_iff (λ e. (λ u. absurd (n u), λ _. e)) (λ h. h.1 n) (decides_eq w 0)

pub decides_upstream_row : (p : Plan) (r : ℕ) → Decides (UpstreamRow p r) (upstream_row p r)
unfolding upstream_row
decides_upstream_row p r = decides_stages p _ _ (λ t k h. decides_indicator (weight_of p r t k) (decides_upstream p r t k h.1.0))

module _ (p : Plan) where
  pub check_answers : Answers is_meets (check_questions p) (check_conditions p)
  unfolding faulty_type faulty_stage faulty_row faulty_bound
  check_answers =
      asked (decides_sound p) (λ _. refl) refl λ _.
      asked (decides_all _ _ p.resources (λ r _. decides_le 1 (rank_of p r))) (λ _. refl) refl λ _.
      asked (decides_lowest _ _ p.types types) (λ no. faulty_stage_lem (lowest_found _ _ p.types types no)) refl λ _.
      asked (decides_eq p.rows p.resources) (λ _. refl) refl λ _.
      asked (decides_lowest _ _ p.rows rows) (λ no. faulty_row_lem (lowest_found _ _ p.rows rows no)) refl λ _.
      asked (decides_lowest _ _ p.rows bounds) (λ no. faulty_bound_lem (lowest_found _ _ p.rows bounds no)) refl λ _.
      done
    where
      stages : (t k : ℕ) → InRange k (length_of p t) → Decides (OneUnit p t k) (one_unit p t k)
      stages t k _ = decides_one_unit p t k

      types : (t : ℕ) → InRange t p.types → Decides (OneUnits p t) (eqb (faulty_stage p t) 0)
      types t _ = decides_lowest _ _ (length_of p t) (stages t)

      faulty_stage_lem : Lowest p.types (OneUnits p) (faulty_type p)
          → (t k : ℕ)
          × CheckSays 22 t k (NotOneUnit (faulty_type p) (faulty_stage p (faulty_type p)))
          × Lowest p.types (OneUnits p) t
          × Lowest (length_of p t) (OneUnit p t) k
      faulty_stage_lem l =
          let t = faulty_type p in
          (t, faulty_stage p t, refl, l, lowest_found _ _ (length_of p t) (stages t) l.fails)

      faulty_row_lem : Lowest p.rows (UpstreamRow p) (faulty_row p)
          → (r : ℕ) × CheckSays 24 r 0 (WrongWeight (faulty_row p)) × Lowest p.rows (UpstreamRow p) r
      faulty_row_lem l = (faulty_row p, refl, l)

      faulty_bound_lem : Lowest p.rows (UpstreamBound p) (faulty_bound p)
          → (r : ℕ) × CheckSays 25 r 0 (WrongBound (faulty_bound p)) × Lowest p.rows (UpstreamBound p) r
      faulty_bound_lem l = (faulty_bound p, refl, l)

      rows : (r : ℕ) → InRange r p.rows → Decides (UpstreamRow p r) (upstream_row p r)
      rows r _ = decides_upstream_row p r

      bounds : (r : ℕ) → InRange r p.rows → Decides (UpstreamBound p r) (in_range (bound_of p r) (capacity_of p r))
      bounds r _ = decides_range (bound_of p r) (capacity_of p r)

  pub check_first_failure : FirstFailure (CheckSays 0 0 0) (check_conditions p) (check p)
  unfolding check
  check_first_failure = first_failure is_meets Meets (CheckSays 0 0 0) refl check_answers

  pub check_exact : (check p ≡ Meets) ↔ UpstreamRule p
  unfolding check
  check_exact = (λ e. rule (all_hold is_meets Meets check_answers (ap is_meets e)), λ u. accepted is_meets Meets check_answers (conditions u))
    where
      rule : AllHold (check_conditions p) → UpstreamRule p
      rule h = record {
        sound = h.0;
        ranked = h.1.0;
        one_units = h.1.1.0;
        as_many_rows = h.1.1.1.0;
        rows = h.1.1.1.1.0;
        bounds = h.1.1.1.1.1.0;
      }

      conditions : UpstreamRule p → AllHold (check_conditions p)
      conditions u = (u.sound, (u.ranked, (u.one_units, (u.as_many_rows, (u.rows, (u.bounds, tt))))))
