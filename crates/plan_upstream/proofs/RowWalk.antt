-- The laws behind faulty_row: the stages are gone through from the last to the first, and what a stage is upstream of follows
-- from its own demands and from what the stage after it is upstream of.
use Prim.Native.Nat.{ℕ, zero, suc, ◌+◌, ◌-◌, ◌≤◌, ◌<◌}
use native.Mathlib.Nat.{le_refl}
use native.Mathlib.Omega.{arith}
use mathlib.Core.Bool.{Bool, true, false, cond, ◌&&◌, ◌||◌, and-false, or-false}
use mathlib.Core.Logic.{◌⊎◌, inl, inr, ⊎_elim}
use mathlib.Core.Path.{◌≡◌, refl, sym, subst}
use borrow.Author.Tests.{lt-leb, eq-eqb, ne_eqb}
use Rattle.model.specs.Numbers.{InRange, sum_to}
use Rattle.model.specs.Plan.{rank_of, length_of, IsStage, all_stages, stage_of, demand_of, weight_of, Demands}
use Rattle.model.specs.Upstream.{RankedUpTo, UpstreamOf, demands, ranked_up_to, upstream_of, upstream_row}
use Rattle.model.specs.declared.Plan.{Plan}
use Rattle.model.proofs.Decide.{Decides, failing, passes, same_test, decided, decides_iff, decides_or, ◌and◌, decides_le, decides_eq}
use Rattle.model.proofs.Flat.{flat_index, index_of_stage, one_at_index}
use Rattle.model.proofs.Soundness.{decides_stages}
use Rattle.model.proofs.Upstream.{decides_ranked_up_to, decides_upstream}
use Rattle.plan_upstream_stage.specs.Due.{no_rank, due_by}
use Rattle.plan_upstream_stage.proofs.Ranked.{lowest_ranked}
use Rattle.plan_upstream.specs.CheckInternals.{stretch_rank}

module _ (p : Plan) (r t : ℕ) where
  -- stage k demands the resource, or it is ranked up to it and the stage after it is upstream
  abbrev Here : ℕ → Type 0
  Here k = Demands p t k r ⊎ (RankedUpTo p r t k × UpstreamOf p r t (suc k))

  upstream_up : (k : ℕ) → InRange k (length_of p t) → Here k → UpstreamOf p r t k
  upstream_up k h (inl d) = record { q = k; from = le_refl k; within = h; demands = d; between = λ i low high. absurd (omega arith) }
  upstream_up k h (inr (ranked, u)) =
      record { q = u.q; from = omega (arith, u.from); within = u.within; demands = u.demands; between = between }
    where
      between : (i : ℕ) → k ≤ i → i < u.q → RankedUpTo p r t i
      between i low high =
          ⊎_elim (λ (e : k ≡ i). subst (RankedUpTo p r t) e ranked) (λ (ne : ¬ (k ≡ i)). u.between i (omega arith) high) (decided (decides_eq k i))

  upstream_down : (k : ℕ) → UpstreamOf p r t k → Here k
  upstream_down k u =
      ⊎_elim (λ (e : u.q ≡ k). inl (subst (λ (q : ℕ). Demands p t q r) e u.demands)) (λ (ne : ¬ (u.q ≡ k)). inr (later ne))
      (decided (decides_eq u.q k))
    where
      later : ¬ (u.q ≡ k) → RankedUpTo p r t k × UpstreamOf p r t (suc k)
      later ne = (
        u.between k (le_refl k) (omega (arith, u.from)),
        record {
          q = u.q;
          from = omega (arith, u.from);
          within = u.within;
          demands = u.demands;
          between = λ i low high. u.between i (omega arith) high;
        },
      )

  upstream_here : (k : ℕ) → InRange k (length_of p t) → upstream_of p r t k ≡ (demands p t k r || (ranked_up_to p r t k && upstream_of p r t (suc k)))
  upstream_here k h =
      let later = decides_ranked_up_to p r t k and decides_upstream p r t (suc k) (omega arith) in
      same_test (decides_upstream p r t k h.0)
      (decides_iff (upstream_up k h) (upstream_down k) (decides_or (decides_le 1 (demand_of p r t k)) later))

  -- no stage is left after the last
  upstream_after : (k : ℕ) → length_of p t ≤ k → upstream_of p r t (suc k) ≡ false
  upstream_after k last = same_test (decides_upstream p r t (suc k) (omega arith)) (failing (λ u. omega (arith, u.from, u.within)))

-- the stage at index i, counted from 0
pub record StageAtIndex (p : Plan) (i : ℕ) : Type 0 where
  pub t : ℕ
  pub k : ℕ
  pub stage : IsStage p t k
  pub here : i + 1 ≡ flat_index (length_of p) t k

module _ (p : Plan) (i : ℕ) where
  stage_of_lem : (n : ℕ) → n ≤ p.types → i < sum_to n (length_of p) → StageAtIndex p i
  stage_of_lem zero low more = absurd (omega arith)
  stage_of_lem (suc n) low more =
      ⊎_elim (λ (h : suc i ≤ sum_to n (length_of p)). stage_of_lem n (omega arith) h)
      (λ (h : ¬ (suc i ≤ sum_to n (length_of p))).
      let before : suc n - 1 ≡ n = omega arith in
      record {
        t = suc n;
        k = suc i - sum_to n (length_of p);
        stage = ((omega arith, low), (omega arith, omega arith));
        here = rw before (omega arith);
      })
      (decided (decides_le (suc i) (sum_to n (length_of p))))

  pub next_stage : i < all_stages p → StageAtIndex p i
  unfolding all_stages
  next_stage more = stage_of_lem p.types (le_refl p.types) more

-- by the stage's own demand, and by what is due to the stage after it; to a type's last stage, by its own demand alone
due_of : (a b c : Bool) (later : ℕ) → later ≡ cond c 1 0 → cond (a || (b && c)) 1 0 ≡ cond a 1 (cond b later 0)
due_of true b c later e = refl
due_of false true c later e = sym e
due_of false false c later e = refl

due_last : (a b : Bool) → ◌≡◌ {A = ℕ} (cond (a || (b && false)) 1 0) (cond a 1 0)
due_last a b = rw (and-false, or-false) refl

-- the weight due to stage k of type t in row r, and that it is right
abbrev pub due_to : Plan → ℕ → ℕ → ℕ → ℕ
due_to p r t k = cond (upstream_of p r t k) 1 0

abbrev pub Right : Plan → ℕ → ℕ → ℕ → Type 0
Right p r t k = weight_of p r t k ≡ due_to p r t k

module _ (p : Plan) (r : ℕ) where
  decides_row : Decides ((t k : ℕ) → IsStage p t k → Right p r t k) (upstream_row p r)
  unfolding upstream_row
  decides_row = decides_stages p (Right p r) _ (λ t k h. decides_eq (weight_of p r t k) (due_to p r t k))

  pub wrong_row : (t k : ℕ) → IsStage p t k → (¬ Right p r t k) → upstream_row p r ≡ false
  wrong_row t k h wrong = same_test decides_row (failing (λ all. wrong (all t k h)))

  -- the stages from the index on are seen, and right; `due` is what is due to the first of them
  pub record Walk (index due : ℕ) : Type 0 where
    pub within : index ≤ all_stages p
    pub seen : (t k : ℕ) → IsStage p t k → index < flat_index (length_of p) t k → Right p r t k
    pub due_is : (t k : ℕ) → IsStage p t k → flat_index (length_of p) t k ≡ suc index → due ≡ due_to p r t k

  pub walk_starts : Walk (all_stages p) 0
  walk_starts =
      record {
        within = le_refl (all_stages p);
        seen = λ t k h above. absurd (omega (arith, index_of_stage p t k h));
        due_is = λ t k h e. absurd (omega (arith, index_of_stage p t k h));
      }

  pub walk_ends : {due : ℕ} → Walk 0 due → upstream_row p r ≡ true
  walk_ends w = passes decides_row (λ t k h. w.seen t k h (index_of_stage p t k h).0)

  -- what is due to the next stage
  module _ {i due : ℕ} (w : Walk (suc i) due) (n : StageAtIndex p i) where
    later_is : n.k < length_of p n.t → due ≡ due_to p r n.t (suc n.k)
    later_is more = w.due_is n.t (suc n.k) (n.stage.0, (omega arith, more)) (omega (arith, n.here))

    pub next_due : rank_of p r < no_rank
        → due_to p r n.t n.k ≡ due_by (demand_of p r n.t n.k) (stretch_rank p n.t n.k) (rank_of p r) due
    unfolding ranked_up_to demand_of
    next_due low =
        rw (upstream_here p r n.t n.k n.stage.1) (
        ⊎_elim
        (λ (e : n.k ≡ length_of p n.t).
        rw (eq-eqb _ _ e, lt-leb no_rank (rank_of p r) low, upstream_after p r n.t n.k (omega (arith, e)))
        (due_last (demands p n.t n.k r) (ranked_up_to p r n.t n.k)))
        (λ (ne : ¬ (n.k ≡ length_of p n.t)).
        rw (ne_eqb _ _ ne, lowest_ranked (rank_of p r) low p.resources (stage_of p n.t n.k).demand p.rank)
        (due_of (demands p n.t n.k r) (ranked_up_to p r n.t n.k) _ due (later_is (omega (arith, n.stage.1)))))
        (decided (decides_eq n.k (length_of p n.t))))

    pub walk_on : {here : ℕ} → here ≡ due_to p r n.t n.k → Right p r n.t n.k → Walk i here
    walk_on {here} due right =
        record {
          within = omega (arith, w.within);
          seen =
              λ t k h above.
              ⊎_elim (λ (e : flat_index (length_of p) t k ≡ suc i). let same = only t k h e in rw (← same.0, ← same.1) right)
              (λ (ne : ¬ (flat_index (length_of p) t k ≡ suc i)). w.seen t k h (omega arith))
              (decided (decides_eq (flat_index (length_of p) t k) (suc i)));
          due_is = λ t k h e. let same = only t k h e in rw (← same.0, ← same.1) due;
        }
      where
        only : (t k : ℕ) → IsStage p t k → flat_index (length_of p) t k ≡ suc i → (n.t ≡ t) × (n.k ≡ k)
        only t k h e = one_at_index p n.t n.k t k n.stage h (omega (arith, n.here, e))
