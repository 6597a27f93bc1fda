-- The laws behind closed: at each turn one entry is written, that of a type's last stage, and no other stage stands there; what
-- it returns are the ranks from which on stretches go on.
use Prim.Native.Nat.{ℕ, zero, suc, ◌+◌, ◌≤◌, ◌<◌}
use native.Mathlib.Nat.{le_refl}
use native.Mathlib.Numerals.{sub-one}
use native.Mathlib.Omega.{arith}
use mathlib.Core.Bool.{Bool, cond, ◌&&◌}
use mathlib.Core.List.{List}
use mathlib.Core.Logic.{⊎_elim}
use mathlib.Core.Path.{◌≡◌, refl, sym, ap, ◌∙◌}
use lib.Dec.{leb, eqb}
use lib.ListN.{length, set}
use lib.Seq.{get_or-set_same, get_or-set_other}
use borrow.Author.Tests.{le-leb, lt-leb, eq-eqb, ne_eqb}
use Rattle.model.specs.Numbers.{InRange, at, sum_to}
use Rattle.model.specs.Plan.{all_stages}
use Rattle.model.specs.declared.Plan.{Plan}
use Rattle.model.proofs.Decide.{decided, decides_le, decides_eq}
use Rattle.model.proofs.Flat.{flat_index, flat_unique, stage_at_lem, index_of_stage}
use Rattle.plan_upstream_stage.specs.Due.{no_rank}
use Rattle.plan_upstream.specs.CheckInternals.{LowestRanks, Closed, StretchRanks}

set_elsewhere : (xs : List ℕ) (j v i : ℕ) → (¬ (i ≡ suc j)) → at (set xs j v) i ≡ at xs i
set_elsewhere xs j v zero ne = refl
set_elsewhere xs j v (suc i) ne = get_or-set_other xs j i v 0 (λ e. ne (omega arith))

module _ (lengths : List ℕ) (types : ℕ) (lowest : List ℕ) where
  -- the first n types are closed
  abbrev pub ClosedTo : ℕ → List ℕ → Type 0
  ClosedTo n ranks =
      (t k : ℕ) → InRange t types → InRange k (at lengths t)
      → let i = flat_index (at lengths) t k in at ranks i ≡ cond (leb t n && eqb k (at lengths t)) no_rank (at lowest i)

  pub closed_none : ClosedTo 0 lowest
  closed_none t k ht hk = rw (lt-leb t 0 ht.0) refl

  pub closed_all : (n : ℕ) → types ≤ n → (ranks : List ℕ) → ClosedTo n ranks → Closed lengths types lowest ranks
  closed_all n whole ranks all t k ht hk = rw (le-leb t n (omega arith)) at (all t k ht hk)

  -- the last stage of type n + 1 stands at j
  module _ (n j : ℕ) (here : suc j ≡ sum_to (suc n) (at lengths)) where
    last_there : flat_index (at lengths) (suc n) (at lengths (suc n)) ≡ suc j
    last_there = rw (sub-one, here) refl

    pub close_more : (ranks : List ℕ) → j < length ranks → 1 ≤ at lengths (suc n) → ClosedTo n ranks → ClosedTo (n + 1) (set ranks j no_rank)
    close_more ranks room some before t k ht hk =
        ⊎_elim last other (decided (decides_eq (flat_index (at lengths) t k) (suc j)))
      where
        last : flat_index (at lengths) t k ≡ suc j
            → at (set ranks j no_rank) (flat_index (at lengths) t k)
            ≡ cond (leb t (n + 1) && eqb k (at lengths t)) no_rank (at lowest (flat_index (at lengths) t k))
        last e =
            let same = flat_unique (at lengths) t k (suc n) (at lengths (suc n)) hk (some, le_refl _) ht.0 (omega arith) (e ∙ sym last_there) in
            let whole : k ≡ at lengths t = rw same.0 same.1 in
            ap (at (set ranks j no_rank)) e
            ∙ get_or-set_same ranks j no_rank 0 room
            ∙ sym (rw (le-leb t (n + 1) (omega (arith, same.0)), eq-eqb k (at lengths t) whole) refl)

        other : (¬ (flat_index (at lengths) t k ≡ suc j))
            → at (set ranks j no_rank) (flat_index (at lengths) t k)
            ≡ cond (leb t (n + 1) && eqb k (at lengths t)) no_rank (at lowest (flat_index (at lengths) t k))
        other ne =
            set_elsewhere ranks j no_rank _ ne
            ∙ before t k ht hk
            ∙ ap (λ (b : Bool). cond b no_rank (at lowest (flat_index (at lengths) t k))) same
          where
            inside : (¬ (t ≤ n)) → t ≤ n + 1 → k ≡ at lengths t → ⊥
            inside l g e = let s : t ≡ suc n = omega arith in ne (rw (e, s) last_there)

            same : (leb t n && eqb k (at lengths t)) ≡ (leb t (n + 1) && eqb k (at lengths t))
            same =
                ⊎_elim (λ (l : t ≤ n). rw (le-leb t n l, le-leb t (n + 1) (omega arith)) refl)
                (λ (l : ¬ (t ≤ n)).
                rw (lt-leb t n (omega arith)) (
                ⊎_elim (λ (g : t ≤ n + 1). rw (le-leb t (n + 1) g, ne_eqb k (at lengths t) (inside l g)) refl)
                (λ (g : ¬ (t ≤ n + 1)). rw (lt-leb t (n + 1) (omega arith)) refl)
                (decided (decides_le t (n + 1)))))
                (decided (decides_le t n))

pub ranks_closed : (p : Plan) (lowest ranks : List ℕ) → LowestRanks p (all_stages p) lowest → Closed p.lengths p.types lowest ranks
    → StretchRanks p ranks
ranks_closed p lowest ranks low closed t k h =
    closed t k h.0 h.1 ∙ rw (low _ (index_of_stage p t k h), stage_at_lem p t k h) refl
