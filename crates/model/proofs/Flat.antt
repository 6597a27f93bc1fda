-- The stages of a plan as one list: those of type 1, then those of type 2 and so on. A test at each stage of each type is
-- one test at each index of that list; where a stage stands, and that no other stands there.
use Prim.Native.Nat.{ℕ, zero, suc, ◌+◌, ◌-◌, ◌≤◌, ◌<◌}
use native.Mathlib.Nat.{add-zero, add-suc}
use native.Mathlib.Numerals.{sub-one, add-one}
use native.Mathlib.Omega.{arith}
use mathlib.Core.Bool.{Bool, cond, ◌&&◌, and-true, and_assoc}
use mathlib.Core.List.{List, [], ◌∷◌}
use mathlib.Core.Logic.{◌⊎◌, inl, inr, ⊎_elim}
use mathlib.Core.Path.{◌≡◌, refl, sym, ap, ◌∙◌}
use lib.Dec.{leb}
use lib.ListN.{length, drop, get_or, length-drop}
use lib.Seq.{get_or-drop}
use borrow.Author.Tests.{le-leb, lt-leb}
use Rattle.model.specs.Limits.{max_all_stages}
use Rattle.model.specs.Numbers.{InRange, entry, sum_to, all_to, each}
use Rattle.model.specs.Plan.{no_stage, length_of, IsStage, is_stage, all_stages, stage_of}
use Rattle.model.specs.Soundness.{Sound}
use Rattle.model.specs.declared.Plan.{Plan}
use Rattle.model.specs.declared.Stage.{Stage}
use Rattle.model.proofs.Decide.{Decides, holding, failing, decided, decides_le, decides_range, passes, ◌and◌}
use Rattle.model.proofs.Lists.{entry_there}

pub all_cong : (n : ℕ) (f g : ℕ → Bool) → ((i : ℕ) → InRange i n → f i ≡ g i) → all_to n f ≡ all_to n g
all_cong zero f g e = refl
all_cong (suc n) f g e = rw (all_cong n f g (λ i h. e i (omega arith)), e (suc n) (omega arith)) refl

-- first the test at 1 to m, then at the n numbers after it
pub all_add : (m n : ℕ) (g : ℕ → Bool) → all_to (m + n) g ≡ (all_to m g && all_to n (λ k. g (m + k)))
all_add m zero g = rw (add-zero, and-true) refl
all_add m (suc n) g = rw (add-suc, all_add m n g) (and_assoc (all_to m g) (all_to n (λ k. g (m + k))) (g (suc (m + n))))

all_front : (n : ℕ) (g : ℕ → Bool) → all_to (suc n) g ≡ (g 1 && all_to n (λ k. g (suc k)))
all_front zero g = sym (and-true (g 1))
all_front (suc n) g = rw (all_front n g) (and_assoc (g 1) (all_to n (λ k. g (suc k))) (g (suc (suc n))))

-- one test up to m and another beyond it
pub all_split : (m n : ℕ) (f g : ℕ → Bool) → m ≤ n → all_to n (λ i. cond (leb i m) (f i) (g i)) ≡ (all_to m f && all_to (n - m) (λ k. g (m + k)))
all_split m n f g h =
    let e : n ≡ m + (n - m) = omega arith in
    ap (λ j. all_to j test) e
    ∙ all_add m (n - m) test
    ∙ rw (all_cong m test f low, all_cong (n - m) (λ k. test (m + k)) (λ k. g (m + k)) high) refl
  where
    test : ℕ → Bool
    test i = cond (leb i m) (f i) (g i)

    low : (i : ℕ) → InRange i m → test i ≡ f i
    low i r = rw (le-leb i m r.1) refl

    high : (k : ℕ) → InRange k (n - m) → test (m + k) ≡ g (m + k)
    high k r = rw (lt-leb (m + k) m (omega arith)) refl

-- the entries of a list
module _ {A : Type 0} (f : A → Bool) (d : A) where
  each_all : (xs : List A) → each f xs ≡ all_to (length xs) (λ k. f (entry xs k d))
  each_all [] = refl
  each_all (x ∷ xs) =
      rw (each_all xs, all_front (length xs) (λ k. f (entry (x ∷ xs) k d)))
      (ap (λ b. f x && b) (all_cong (length xs) (λ k. f (entry xs k d)) (λ k. f (get_or (x ∷ xs) k d)) same))
    where
      same : (k : ℕ) → InRange k (length xs) → f (entry xs k d) ≡ f (get_or (x ∷ xs) k d)
      same zero h = absurd (omega arith)
      same (suc k) h = refl

  -- those after the first m
  pub each_beyond : (m : ℕ) (xs : List A) → each f (drop m xs) ≡ all_to (length xs - m) (λ k. f (entry xs (m + k) d))
  each_beyond m xs = each_all (drop m xs) ∙ rw length-drop (all_cong (length xs - m) _ _ same)
    where
      same : (k : ℕ) → InRange k (length xs - m) → f (entry (drop m xs) k d) ≡ f (entry xs (m + k) d)
      same zero h = absurd (omega arith)
      same (suc k) h = rw (get_or-drop, add-suc) refl

-- groups of numbers, len t of them in group t: where entry k of group t stands when they follow each other, counted from 1
module _ (len : ℕ → ℕ) where
  abbrev pub flat_index : ℕ → ℕ → ℕ
  flat_index t k = sum_to (t - 1) len + k

  pub all_flat : (n : ℕ) (g : ℕ → Bool) → all_to n (λ t. all_to (len t) (λ k. g (flat_index t k))) ≡ all_to (sum_to n len) g
  all_flat zero g = refl
  all_flat (suc n) g = rw (all_flat n g, sub-one) (sym (all_add (sum_to n len) (len (suc n)) g))

  pub sum_up_to : (n i : ℕ) → i ≤ n → sum_to i len ≤ sum_to n len
  sum_up_to zero i h = let e : i ≡ 0 = omega arith in rw e (omega arith)
  sum_up_to (suc n) i h =
      ⊎_elim (λ (l : i ≤ n). omega (arith, sum_up_to n i l)) (λ (l : ¬ (i ≤ n)). let e : i ≡ suc n = omega arith in rw e (omega arith))
      (decided (decides_le i n))

  -- a group ends where the next begins, and before the whole ends
  pub flat_before : (t k n : ℕ) → 1 ≤ t → t ≤ n → k ≤ len t → flat_index t k ≤ sum_to n len
  flat_before zero k n h l m = absurd (omega arith)
  flat_before (suc t) k n h l m = rw sub-one (omega (arith, sum_up_to n (suc t) l))

  -- an index has one entry
  pub flat_unique : (t k u j : ℕ) → InRange k (len t) → InRange j (len u) → 1 ≤ t → 1 ≤ u → flat_index t k ≡ flat_index u j → (t ≡ u) × (k ≡ j)
  flat_unique t k u j in-t in-u ht hu e =
      ⊎_elim (λ (l : t ≤ u - 1). absurd (omega (arith, flat_before t k (u - 1) ht l in-t.1)))
      (λ (l : ¬ (t ≤ u - 1)).
      ⊎_elim (λ (m : u ≤ t - 1). absurd (omega (arith, flat_before u j (t - 1) hu m in-u.1)))
      (λ (m : ¬ (u ≤ t - 1)). let same : t ≡ u = omega arith in (same, omega (arith, ap (λ (i : ℕ). sum_to (i - 1) len) same)))
      (decided (decides_le u (t - 1))))
      (decided (decides_le t (u - 1)))

module _ (p : Plan) where
  -- a stage of the plan is the entry at its index
  pub stage_at_lem : (t k : ℕ) → IsStage p t k → stage_of p t k ≡ entry p.stages (flat_index (length_of p) t k) no_stage
  unfolding stage_of is_stage
  stage_at_lem t k h = rw (passes (decides_range t p.types) h.0, passes (decides_range k (length_of p t)) h.1) refl

  -- there is a stage, or none is read
  pub stage_cases : (t k : ℕ) → IsStage p t k ⊎ (stage_of p t k ≡ no_stage)
  unfolding stage_of is_stage
  stage_cases t k = go (decides_range t p.types and decides_range k (length_of p t))
    where
      go : {b : Bool} → Decides (IsStage p t k) b → IsStage p t k ⊎ (cond b (entry p.stages (flat_index (length_of p) t k) no_stage) no_stage ≡ no_stage)
      go (holding h) = inl h
      go (failing h) = inr refl

  pub stages_flat : (f : ℕ → ℕ → Bool) (g : ℕ → Bool) → ((t k : ℕ) → IsStage p t k → f t k ≡ g (flat_index (length_of p) t k))
      → all_to p.types (λ t. all_to (length_of p t) (f t)) ≡ all_to (all_stages p) g
  unfolding all_stages
  stages_flat f g e =
      all_cong p.types _ _ (λ t ht. all_cong (length_of p t) _ _ (λ k hk. e t k (ht, hk)))
      ∙ all_flat (length_of p) p.types g

  pub index_of_stage : (t k : ℕ) → IsStage p t k → InRange (flat_index (length_of p) t k) (all_stages p)
  unfolding all_stages
  index_of_stage t k h = (omega (arith, h.1), flat_before (length_of p) t k p.types h.0.0 h.0.1 h.1.1)

  pub one_at_index : (t k u j : ℕ) → IsStage p t k → IsStage p u j → flat_index (length_of p) t k ≡ flat_index (length_of p) u j → (t ≡ u) × (k ≡ j)
  one_at_index t k u j h g = flat_unique (length_of p) t k u j h.1 g.1 h.0.0 g.0.0

  -- a stage of a sound plan by its index in the array of stages, counted from 0
  module _ (sound : Sound p) (t k : ℕ) (stage : IsStage p t k) (index : ℕ) (here : index + 1 ≡ flat_index (length_of p) t k) where
    pub index_within : index < max_all_stages
    index_within = omega (arith, here, index_of_stage t k stage, sound.total)

    pub stage_there : (d : Stage) → length p.stages ≡ max_all_stages → get_or p.stages index d ≡ stage_of p t k
    stage_there d whole = entry_there p.stages index d no_stage (omega (arith, index_within, whole)) ∙ sym (stage_at_lem t k stage ∙ named)
      where
        named : entry p.stages (flat_index (length_of p) t k) no_stage ≡ get_or p.stages index no_stage
        named = rw (← here, add-one) refl
