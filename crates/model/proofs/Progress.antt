-- Under the upstream rule a list of jobs that keeps the rows always has a move: of all jobs take one whose resource has the
-- lowest rank. A row that its advance makes grow belongs to a resource of lower rank, so nobody was counted in it.
use Prim.Native.Nat.{ℕ, ◌+◌, ◌*◌, ◌≤◌, ◌<◌}
use native.Mathlib.Nat.{le_refl}
use native.Mathlib.Omega.{arith}
use mathlib.Core.List.{List, [], ◌∷◌, ◌++◌}
use mathlib.Core.Logic.{◌≢◌, ◌⊎◌, inl, inr, ⊎_elim}
use mathlib.Core.Path.{◌≡◌, refl, sym, ap, subst, ◌∙◌}
use Rattle.model.specs.Numbers.{InRange, sum_to, Each, Split}
use Rattle.model.specs.Plan.{rank_of, bound_of, length_of, IsStage, demand_of, weight_of, Demands}
use Rattle.model.specs.Jobs.{row_sum, KeepsCapacities, KeepsRows, advanced_job, HasNext, advanced_at, AtStage}
use Rattle.model.specs.Upstream.{RankedUpTo, UpstreamOf, OneUnit, UpstreamRule}
use Rattle.model.specs.declared.Plan.{Plan}
use Rattle.model.specs.declared.Job.{Job}
use Rattle.model.proofs.Decide.{decided, decides_eq}
use Rattle.model.proofs.Lists.{each_at, each_moved, each_map, each_both, Least, least_entry}
use Rattle.model.proofs.Upstream.{decides_upstream}
use Rattle.model.proofs.Sums.{sum_single, over_stages_jobs, over_stages_moved, over_stages_removed, over_jobs_zero, over_jobs_mono}

-- a list without one of its jobs keeps what the whole list keeps
module _ (p : Plan) (xs ys : List Job) (j : Job) (staged : AtStage p j) where
  pub removed_keeps_capacities : KeepsCapacities p (xs ++ j ∷ ys) → KeepsCapacities p (xs ++ ys)
  removed_keeps_capacities h r range = omega (arith, h r range, over_stages_removed p (demand_of p r) xs ys j staged)

  pub removed_keeps_rows : KeepsRows p (xs ++ j ∷ ys) → KeepsRows p (xs ++ ys)
  removed_keeps_rows h w range = omega (arith, h w range, over_stages_removed p (weight_of p w) xs ys j staged)

-- the rank of the resource that a stage demands, where it demands one unit of one
held_rank : Plan → ℕ → ℕ → ℕ
held_rank p t k = sum_to p.resources (λ (r : ℕ). demand_of p r t k * rank_of p r)

-- a row weighs 1 upstream of its resource and 0 elsewhere
abbrev WeightCases : Plan → ℕ → ℕ → ℕ → Type 0
WeightCases p r t k = (UpstreamOf p r t k × (weight_of p r t k ≡ 1)) ⊎ ((¬ UpstreamOf p r t k) × (weight_of p r t k ≡ 0))

module _ (p : Plan) (rule : UpstreamRule p) where
  module _ (t k : ℕ) (stage : IsStage p t k) where
    unit : OneUnit p t k
    unit = rule.one_units t stage.0 k stage.1

    held_rank_lem : held_rank p t k ≡ rank_of p unit.resource
    unfolding held_rank
    held_rank_lem =
        sum_single (λ (r : ℕ). demand_of p r t k * rank_of p r) p.resources unit.resource unit.within
        (λ r range other. rw (unit.others r range other) (omega arith))
        ∙ rw unit.one (omega arith)

    demanded : (r : ℕ) → InRange r p.resources → Demands p t k r → held_rank p t k ≡ rank_of p r
    demanded r range d = step (decided (decides_eq r unit.resource))
      where
        step : (r ≡ unit.resource) ⊎ (r ≢ unit.resource) → held_rank p t k ≡ rank_of p r
        step (inl same) = held_rank_lem ∙ ap (rank_of p) (sym same)
        step (inr other) = absurd (omega (arith, unit.others r range other, d))

    -- who is counted upstream of a resource holds a rank at most its rank
    upstream_rank : (r : ℕ) → InRange r p.resources → UpstreamOf p r t k → held_rank p t k ≤ rank_of p r
    upstream_rank r range u = step (decided (decides_eq u.q k))
      where
        step : (u.q ≡ k) ⊎ (u.q ≢ k) → held_rank p t k ≤ rank_of p r
        step (inl here) = omega (arith, demanded r range (subst (λ (q : ℕ). Demands p t q r) here u.demands))
        step (inr later) =
            let low = u.between k (le_refl k) (omega (arith, u.from)) in
            omega (arith, demanded low.0 low.1 low.2, low.3)

    -- a stretch can be lengthened by a stage whose rank is low enough
    lengthened : (r : ℕ) → UpstreamOf p r t (k + 1) → held_rank p t k ≤ rank_of p r → UpstreamOf p r t k
    lengthened r u low =
        record { q = u.q; from = omega (arith, u.from); within = u.within; demands = u.demands; between = stretch }
      where
        first : RankedUpTo p r t k
        first = (unit.resource, unit.within, omega (arith, unit.one), omega (arith, held_rank_lem))

        stretch : (i : ℕ) → k ≤ i → i < u.q → RankedUpTo p r t i
        stretch i from below = step (decided (decides_eq k i))
          where
            step : (k ≡ i) ⊎ (k ≢ i) → RankedUpTo p r t i
            step (inl here) = subst (λ (m : ℕ). RankedUpTo p r t m) here first
            step (inr later) = u.between i (omega arith) below

    weight_cases : (r : ℕ) → InRange r p.resources → WeightCases p r t k
    weight_cases r range = step (decided (decides_upstream p r t k stage.1.0))
      where
        row : (UpstreamOf p r t k → weight_of p r t k ≡ 1) × ((¬ UpstreamOf p r t k) → weight_of p r t k ≡ 0)
        row = rule.rows r (omega (arith, rule.as_many_rows)) t k stage

        step : UpstreamOf p r t k ⊎ (¬ UpstreamOf p r t k) → WeightCases p r t k
        step (inl u) = inl (u, row.0 u)
        step (inr n) = inr (n, row.1 n)

    -- who holds a resource stands upstream of it
    demand_weight : (r : ℕ) → InRange r p.resources → demand_of p r t k ≤ weight_of p r t k
    demand_weight r range = step (decided (decides_eq r unit.resource)) (weight_cases r range)
      where
        here : r ≡ unit.resource → UpstreamOf p r t k
        here same =
            record {
              q = k;
              from = le_refl k;
              within = stage.1;
              demands = omega (arith, unit.one, ap (λ (i : ℕ). demand_of p i t k) same);
              between = λ i from below. absurd (omega arith);
            }

        step : (r ≡ unit.resource) ⊎ (r ≢ unit.resource) → WeightCases p r t k → demand_of p r t k ≤ weight_of p r t k
        step (inl same) (inl w) = omega (arith, w.1, unit.one, ap (λ (i : ℕ). demand_of p i t k) same)
        step (inl same) (inr w) = absurd (w.0 (here same))
        step (inr other) w = omega (arith, unit.others r range other)

  -- the capacities follow from the rows
  pub rows_keep_capacities : (js : List Job) → Each (AtStage p) js → KeepsRows p js → KeepsCapacities p js
  rows_keep_capacities js staged rows r range =
      let row : InRange r p.rows = omega (arith, rule.as_many_rows) in
      omega (
        arith,
        rows r row,
        rule.bounds r row,
        over_stages_jobs p (demand_of p r) js staged,
        over_stages_jobs p (weight_of p r) js staged,
        over_jobs_mono (demand_of p r) (weight_of p r) js (each_map (AtStage p) Counted counted js staged),
      )
    where
      Counted : Job → Type 0
      Counted j = demand_of p r j.kind j.stage ≤ weight_of p r j.kind j.stage

      counted : (j : Job) → AtStage p j → Counted j
      counted j h = demand_weight j.kind j.stage h r range

  abbrev rank_held_by : Job → ℕ
  rank_held_by j = held_rank p j.kind j.stage

  -- the job of lowest rank keeps every row as it advances
  module _ (xs ys : List Job) (j : Job) (next : j.stage < length_of p j.kind) where
    abbrev jobs : List Job
    jobs = xs ++ j ∷ ys

    abbrev AtLeast : Job → Type 0
    AtLeast i = rank_held_by j ≤ rank_held_by i

    module _ (staged : Each (AtStage p) jobs) (rows : KeepsRows p jobs) (least : Each AtLeast jobs) where
      here : AtStage p j
      here = each_at (AtStage p) xs j ys staged

      there : AtStage p (advanced_job p j)
      there = (here.0, omega arith)

      -- nobody is counted in the row of a resource below the lowest rank held
      uncounted : (r : ℕ) → InRange r p.resources → rank_of p r < rank_held_by j → row_sum p r jobs ≡ 0
      uncounted r range low =
          over_stages_jobs p (weight_of p r) jobs staged
          ∙ over_jobs_zero (weight_of p r) jobs
          (each_map (λ (i : Job). AtStage p i × AtLeast i) (λ (i : Job). weight_of p r i.kind i.stage ≡ 0) none jobs
          (each_both (AtStage p) AtLeast jobs staged least))
        where
          none : (i : Job) → AtStage p i × AtLeast i → weight_of p r i.kind i.stage ≡ 0
          none i h =
              ⊎_elim (λ counted. absurd (omega (arith, upstream_rank i.kind i.stage h.0 r range counted.0, h.1))) (λ free. free.1)
              (weight_cases i.kind i.stage h.0 r range)

      advance_keeps_rows : KeepsRows p (xs ++ advanced_job p j ∷ ys)
      advance_keeps_rows r range = step (weight_cases j.kind j.stage here r range') (weight_cases j.kind (j.stage + 1) there r range')
        where
          range' : InRange r p.resources
          range' = omega (arith, rule.as_many_rows)

          moved : row_sum p r (xs ++ advanced_job p j ∷ ys) + weight_of p r j.kind j.stage ≡ row_sum p r jobs + weight_of p r j.kind (j.stage + 1)
          moved = over_stages_moved p (weight_of p r) xs ys j (advanced_job p j) here there

          step : WeightCases p r j.kind j.stage → WeightCases p r j.kind (j.stage + 1) → row_sum p r (xs ++ advanced_job p j ∷ ys) ≤ bound_of p r
          step old (inr new) = omega (arith, moved, rows r range, new.1)
          step (inl old) (inl new) = omega (arith, moved, rows r range, old.1, new.1)
          step (inr old) (inl new) =
              let above : ¬ (rank_held_by j ≤ rank_of p r) = λ low. old.0 (lengthened j.kind j.stage here r new.0 low) in
              omega (arith, moved, uncounted r range' (omega arith), old.1, new.1, rule.bounds r range)

  -- a job whose advance, if it has a next stage, keeps every capacity and every row
  pub record FreeJob (js : List Job) : Type 0 where
    pub here : Split js
    pub capacities : HasNext p here.item → KeepsCapacities p (advanced_at p here)
    pub rows : HasNext p here.item → KeepsRows p (advanced_at p here)

  pub progress : (js : List Job) → js ≢ [] → Each (AtStage p) js → KeepsRows p js → FreeJob js
  progress [] some staged rows = absurd (some refl)
  progress (x ∷ js) some staged rows = free (least_entry rank_held_by x js)
    where
      free : Least rank_held_by (x ∷ js) → FreeJob (x ∷ js)
      free l =
          record {
            here = l.here;
            capacities = λ next. rows_keep_capacities (advanced_at p l.here) (staged_next next) (kept next);
            rows = kept;
          }
        where
          staged' : Each (AtStage p) (l.here.before ++ l.here.item ∷ l.here.after)
          staged' = subst (Each (AtStage p)) l.here.whole staged

          least : Each (λ (i : Job). rank_held_by l.here.item ≤ rank_held_by i) (l.here.before ++ l.here.item ∷ l.here.after)
          least = subst (Each (λ (i : Job). rank_held_by l.here.item ≤ rank_held_by i)) l.here.whole l.least

          kept : HasNext p l.here.item → KeepsRows p (advanced_at p l.here)
          kept next =
              let rows' = subst (KeepsRows p) l.here.whole rows in
              advance_keeps_rows l.here.before l.here.after l.here.item next staged' rows' least

          staged_next : HasNext p l.here.item → Each (AtStage p) (advanced_at p l.here)
          staged_next next =
              let here = each_at (AtStage p) l.here.before l.here.item l.here.after staged' in
              each_moved (AtStage p) l.here.before l.here.item (advanced_job p l.here.item) l.here.after (here.0, omega arith) staged'
