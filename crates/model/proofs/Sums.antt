-- The sum over all stages of an amount × the jobs at that stage is the sum over the jobs: both add up over lists, and one
-- job counts once, at its own stage. Stated over the amount, so units and rows are one case.
use Prim.Native.Nat.{ℕ, zero, suc, ◌+◌, ◌*◌, ◌≤◌}
use native.Mathlib.Omega.{arith}
use mathlib.Core.Bool.{cond}
use mathlib.Core.List.{List, [], ◌∷◌, ◌++◌}
use mathlib.Core.Logic.{◌≢◌}
use mathlib.Core.Path.{◌≡◌, refl, sym, ◌∙◌}
use lib.Dec.{eqb}
use lib.ListN.{length}
use borrow.Author.Tests.{eq-eqb, ne_eqb}
use Rattle.model.specs.Limits.{max_units}
use Rattle.model.specs.Numbers.{InRange, sum_to, Each}
use Rattle.model.specs.Plan.{length_of}
use Rattle.model.specs.Jobs.{is_at, jobs_at, over_stages, over_jobs, AtStage}
use Rattle.model.specs.declared.Plan.{Plan}
use Rattle.model.specs.declared.Job.{Job}
use Rattle.model.proofs.Decide.{Decides, decides_eq, decides_iff, extend}

pub sum_cong : (n : ℕ) {g h : ℕ → ℕ} → ((i : ℕ) → g i ≡ h i) → sum_to n g ≡ sum_to n h
sum_cong zero e = refl
sum_cong (suc n) {g} {h} e = omega (arith, sum_cong n {g = g} {h = h} e, e (suc n))

pub sum_mono : (f g : ℕ → ℕ) → ((i : ℕ) → f i ≤ g i) → (n : ℕ) → sum_to n f ≤ sum_to n g
sum_mono f g h zero = omega arith
sum_mono f g h (suc n) = omega (arith, sum_mono f g h n, h (suc n))

sum_add : (n : ℕ) (g h : ℕ → ℕ) → sum_to n (λ (i : ℕ). g i + h i) ≡ sum_to n g + sum_to n h
sum_add zero g h = omega arith
sum_add (suc n) g h = omega (arith, sum_add n g h)

-- a sum is 0 where each term is, and 1 where one term is 1 and the others are 0
module _ (f : ℕ → ℕ) where
  pub sum_zero : (n : ℕ) → ((i : ℕ) → InRange i n → f i ≡ 0) → sum_to n f ≡ 0
  sum_zero zero h = refl
  sum_zero (suc n) h = omega (arith, sum_zero n (λ i k. h i (omega arith)), h (suc n) (omega arith))

  zero_terms : (n : ℕ) → sum_to n f ≡ 0 → (i : ℕ) → InRange i n → f i ≡ 0
  zero_terms zero e = λ i h. absurd (omega arith)
  zero_terms (suc n) e = extend (λ i. f i ≡ 0) n (zero_terms n (omega arith)) (omega arith)

  abbrev pub ZeroButAt : ℕ → ℕ → Type 0
  ZeroButAt r n = (i : ℕ) → InRange i n → i ≢ r → f i ≡ 0

  pub sum_single : (n r : ℕ) → InRange r n → ZeroButAt r n → sum_to n f ≡ f r
  sum_single zero = λ r h others. absurd (omega arith)
  sum_single (suc n) =
      extend (λ r. ZeroButAt r (suc n) → sum_to (suc n) f ≡ f r) n
      (λ r h others. omega (arith, sum_single n r h (λ i k. others i (omega arith)), others (suc n) (omega arith) (omega arith)))
      (λ others. omega (arith, sum_zero n (λ i k. others i (omega arith) (omega arith))))

  abbrev pub Single : ℕ → Type 0
  Single n = (r : ℕ) × InRange r n × (f r ≡ 1) × ZeroButAt r n

  single_term : (n : ℕ) → sum_to n f ≡ 1 → Single n
  single_term zero e = absurd (omega arith)
  single_term (suc n) e = go (f (suc n)) refl (single_term n)
    where
      go : (m : ℕ) → f (suc n) ≡ m → (sum_to n f ≡ 1 → Single n) → Single (suc n)
      go zero top below =
          let s = below (omega arith) in
          (s.0, omega (arith, s.1), s.2, extend (λ i. i ≢ s.0 → f i ≡ 0) n s.3 (λ _. top))
      go (suc m) top below = (suc n, omega arith, omega arith, λ i h other. zero_terms n (omega arith) i (omega arith))

  pub decides_single : (n : ℕ) → Decides (Single n) (eqb (sum_to n f) 1)
  decides_single n = decides_iff (single_term n) (λ s. sum_single n s.0 s.1 s.3 ∙ s.2) (decides_eq (sum_to n f) 1)

jobs_at_append : (xs ys : List Job) (t k : ℕ) → jobs_at (xs ++ ys) t k ≡ jobs_at xs t k + jobs_at ys t k
jobs_at_append [] ys t k = omega arith
jobs_at_append (j ∷ xs) ys t k = omega (arith, jobs_at_append xs ys t k)

module _ (p : Plan) (f : ℕ → ℕ → ℕ) where
  pub over_stages_append : (xs ys : List Job) → over_stages p f (xs ++ ys) ≡ over_stages p f xs + over_stages p f ys
  unfolding over_stages
  over_stages_append xs ys =
      sum_cong p.types (λ t. sum_cong (length_of p t) (λ k. spread t k) ∙ sum_add (length_of p t) (part xs t) (part ys t))
      ∙ sum_add p.types (λ (t : ℕ). sum_to (length_of p t) (part xs t)) (λ (t : ℕ). sum_to (length_of p t) (part ys t))
    where
      part : List Job → ℕ → ℕ → ℕ
      part js t k = f t k * jobs_at js t k

      spread : (t k : ℕ) → f t k * jobs_at (xs ++ ys) t k ≡ f t k * jobs_at xs t k + f t k * jobs_at ys t k
      spread t k = rw (jobs_at_append xs ys t k) (omega arith)

  pub over_stages_one : (j : Job) → AtStage p j → over_stages p f (j ∷ []) ≡ f j.kind j.stage
  unfolding over_stages
  over_stages_one j h =
      sum_single (λ (t : ℕ). sum_to (length_of p t) (part t)) p.types j.kind h.0 other_type
      ∙ sum_single (part j.kind) (length_of p j.kind) j.stage h.1 other_stage
      ∙ here
    where
      part : ℕ → ℕ → ℕ
      part t k = f t k * (cond (is_at j t k) 1 0 + 0)

      other_type : (t : ℕ) → InRange t p.types → t ≢ j.kind → sum_to (length_of p t) (part t) ≡ 0
      other_type t r n = sum_zero (part t) (length_of p t) (λ k s. rw (ne_eqb j.kind t (λ e. n (sym e))) (omega arith))

      other_stage : (k : ℕ) → InRange k (length_of p j.kind) → k ≢ j.stage → part j.kind k ≡ 0
      other_stage k r n = rw (eq-eqb j.kind j.kind refl, ne_eqb j.stage k (λ e. n (sym e))) (omega arith)

      here : part j.kind j.stage ≡ f j.kind j.stage
      here = rw (eq-eqb j.kind j.kind refl, eq-eqb j.stage j.stage refl) (omega arith)

  over_stages_none : over_stages p f [] ≡ 0
  unfolding over_stages
  over_stages_none = sum_zero _ p.types (λ t r. sum_zero _ (length_of p t) (λ k s. omega arith))

  -- the sum over stages is the sum over jobs
  pub over_stages_jobs : (js : List Job) → Each (AtStage p) js → over_stages p f js ≡ over_jobs f js
  over_stages_jobs [] h = over_stages_none
  over_stages_jobs (j ∷ js) h =
      over_stages_append (j ∷ []) js ∙ omega (arith, over_stages_one j h.0, over_stages_jobs js h.1)

  -- how it changes when one job is added, removed or moved
  pub over_stages_added : (js : List Job) (j : Job) → AtStage p j → over_stages p f (js ++ j ∷ []) ≡ over_stages p f js + f j.kind j.stage
  over_stages_added js j h = omega (arith, over_stages_append js (j ∷ []), over_stages_one j h)

  pub over_stages_removed : (xs ys : List Job) (j : Job) → AtStage p j → over_stages p f (xs ++ j ∷ ys) ≡ over_stages p f (xs ++ ys) + f j.kind j.stage
  over_stages_removed xs ys j h =
      omega (arith, over_stages_append xs (j ∷ ys), over_stages_append (j ∷ []) ys, over_stages_append xs ys, over_stages_one j h)

  pub over_stages_moved : (xs ys : List Job) (i j : Job) → AtStage p i → AtStage p j
      → over_stages p f (xs ++ j ∷ ys) + f i.kind i.stage ≡ over_stages p f (xs ++ i ∷ ys) + f j.kind j.stage
  over_stages_moved xs ys i j h k = omega (arith, over_stages_removed xs ys i h, over_stages_removed xs ys j k)

-- the same of the sum over jobs
module _ (f : ℕ → ℕ → ℕ) where
  pub over_jobs_append : (xs ys : List Job) → over_jobs f (xs ++ ys) ≡ over_jobs f xs + over_jobs f ys
  over_jobs_append [] ys = omega arith
  over_jobs_append (j ∷ xs) ys = omega (arith, over_jobs_append xs ys)

  pub over_jobs_removed : (xs ys : List Job) (j : Job) → over_jobs f (xs ++ j ∷ ys) ≡ over_jobs f (xs ++ ys) + f j.kind j.stage
  over_jobs_removed xs ys j = omega (arith, over_jobs_append xs (j ∷ ys), over_jobs_append xs ys)

  pub over_jobs_moved : (xs ys : List Job) (i j : Job) → over_jobs f (xs ++ j ∷ ys) + f i.kind i.stage ≡ over_jobs f (xs ++ i ∷ ys) + f j.kind j.stage
  over_jobs_moved xs ys i j = omega (arith, over_jobs_removed xs ys i, over_jobs_removed xs ys j)

  pub over_jobs_zero : (js : List Job) → Each (λ (j : Job). f j.kind j.stage ≡ 0) js → over_jobs f js ≡ 0
  over_jobs_zero [] h = refl
  over_jobs_zero (j ∷ js) h = omega (arith, h.0, over_jobs_zero js h.1)

  pub over_jobs_most : (js : List Job) → Each (λ (j : Job). f j.kind j.stage ≤ max_units) js → over_jobs f js ≤ length js * max_units
  over_jobs_most [] h = omega arith
  over_jobs_most (j ∷ js) h = omega (arith, h.0, over_jobs_most js h.1)

  pub over_jobs_mono : (g : ℕ → ℕ → ℕ) (js : List Job) → Each (λ (j : Job). f j.kind j.stage ≤ g j.kind j.stage) js → over_jobs f js ≤ over_jobs g js
  over_jobs_mono g [] h = omega arith
  over_jobs_mono g (j ∷ js) h = omega (arith, h.0, over_jobs_mono g js h.1)
