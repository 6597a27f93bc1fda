-- The parts between separators, one after the other, by where a search for the next separator ends: by induction over the list.
use Prim.Native.Nat.{ℕ, suc, ◌+◌, ◌-◌, ◌≤◌, ◌<◌}
use native.Mathlib.Numerals.{add-one}
use native.Mathlib.Omega.{arith}
use mathlib.Core.Bool.{Bool, true, false, cond}
use mathlib.Core.List.{List, [], ◌∷◌, ◌++◌}
use mathlib.Core.Logic.{◌≢◌, ⊎_elim}
use mathlib.Core.Path.{◌≡◌, refl, ap, ◌∙◌}
use lib.Dec.{eqb}
use lib.ListN.{length, take, drop, drop_of_length-le}
use lib.Seq.{take-length, drop-length, drop-cons, drop-drop}
use borrow.Author.Tests.{eq-eqb, ne_eqb}
use Rattle.model.specs.Numbers.{Each}
use Rattle.model.proofs.Decide.{decided, decides_eq}
use Rattle.byte_slices.specs.Bytes.{slice, index_after, index_of}
use Rattle.plan_text.specs.Lines.{wider, split_by}

-- the parts after the separator that a list begins with; none of a list that is at its end
abbrev pub parts_after : ℕ → List ℕ → List (List ℕ)
parts_after s [] = []
parts_after s (b ∷ bs) = split_by s bs

module _ (s : ℕ) where
  -- the first part ends at the first separator, and the others come after it
  pub split_first : (bs : List ℕ) → let i = index_of s bs in split_by s bs ≡ take i bs ∷ parts_after s (drop i bs)
  unfolding index_of index_after
  split_first [] = refl
  split_first (b ∷ bs) = step (eqb b s) (split_first bs)
    where
      step : (here : Bool) → split_by s bs ≡ take (index_of s bs) bs ∷ parts_after s (drop (index_of s bs) bs)
          → let i = index_after here (index_of s bs) in
          cond here ([] ∷ split_by s bs) (wider b (split_by s bs)) ≡ take i (b ∷ bs) ∷ parts_after s (drop i (b ∷ bs))
      step true e = refl
      step false e = ap (wider b) e

  module _ (bs : List ℕ) where
    pub split_some : ¬ (split_by s bs ≡ [])
    split_some e = let z : ◌≡◌ {A = ℕ} 0 1 = cc (split_first bs) in omega arith

    -- what comes after a separator, and after the end
    pub after_separator : (at : ℕ) → at < length bs → parts_after s (drop at bs) ≡ split_by s (drop (at + 1) bs)
    after_separator at h = rw (add-one, drop-cons bs at 0) refl

    pub after_end : (at : ℕ) → length bs ≤ at → parts_after s (drop at bs) ≡ []
    after_end at h = rw (drop_of_length-le bs {i = at}) refl

    -- so there are others where a separator is found, and none where it is not
    pub split_at : index_of s bs < length bs → split_by s bs ≡ take (index_of s bs) bs ∷ split_by s (drop (suc (index_of s bs)) bs)
    split_at h = split_first bs ∙ rw (drop-cons bs (index_of s bs) 0) refl

    pub split_last : index_of s bs ≡ length bs → split_by s bs ≡ take (index_of s bs) bs ∷ []
    split_last h = split_first bs ∙ rw (h, drop-length bs) refl

    -- from an offset of the list on, where a search that starts there ends
    pub split_from : (from end : ℕ) → end ≡ from + index_of s (slice from (length bs) bs)
        → split_by s (drop from bs) ≡ take (end - from) (drop from bs) ∷ parts_after s (drop end bs)
    unfolding slice
    split_from from end e =
        let whole : take (length bs) bs ≡ bs = take-length bs in
        let found : end ≡ from + index_of s (drop from bs) = rw whole at e in
        let size : end - from ≡ index_of s (drop from bs) = omega arith in
        rw (size, found, ← drop-drop (index_of s (drop from bs)) from bs) (split_first (drop from bs))

-- parts put together, with the separator between them
abbrev pub joined_by : ℕ → List (List ℕ) → List ℕ
joined_by s [] = []
joined_by s (p ∷ []) = p
joined_by s (p ∷ q ∷ ps) = p ++ s ∷ joined_by s (q ∷ ps)

module _ (s : ℕ) where
  joined_after : (ps : List (List ℕ)) → ps ≢ [] → joined_by s ([] ∷ ps) ≡ s ∷ joined_by s ps
  joined_after [] some = absurd (some refl)
  joined_after (p ∷ ps) some = refl

  joined_wider : (b : ℕ) (ps : List (List ℕ)) → joined_by s (wider b ps) ≡ b ∷ joined_by s ps
  joined_wider b [] = refl
  joined_wider b (p ∷ []) = refl
  joined_wider b (p ∷ q ∷ ps) = refl

  -- the parts are the list again, and none of them has a separator
  pub split_joined : (bs : List ℕ) → joined_by s (split_by s bs) ≡ bs
  split_joined [] = refl
  split_joined (b ∷ bs) =
      ⊎_elim
      (λ (e : b ≡ s). rw (eq-eqb b s e) (joined_after (split_by s bs) (split_some s bs) ∙ rw (split_joined bs, e) refl))
      (λ (ne : ¬ (b ≡ s)). rw (ne_eqb b s ne) (joined_wider b (split_by s bs) ∙ rw (split_joined bs) refl))
      (decided (decides_eq b s))

  clean_wider : (b : ℕ) (ps : List (List ℕ)) → b ≢ s → Each (Each (λ (c : ℕ). c ≢ s)) ps → Each (Each (λ (c : ℕ). c ≢ s)) (wider b ps)
  clean_wider b [] ne h = ((ne, tt), tt)
  clean_wider b (p ∷ ps) ne h = ((ne, h.0), h.1)

  pub split_clean : (bs : List ℕ) → Each (Each (λ (c : ℕ). c ≢ s)) (split_by s bs)
  split_clean [] = (tt, tt)
  split_clean (b ∷ bs) =
      ⊎_elim (λ (e : b ≡ s). rw (eq-eqb b s e) (tt, split_clean bs))
      (λ (ne : ¬ (b ≡ s)). rw (ne_eqb b s ne) (clean_wider b (split_by s bs) ne (split_clean bs)))
      (decided (decides_eq b s))

  -- a part without a separator, alone and with more after it
  pub split_alone : (p : List ℕ) → Each (λ (c : ℕ). c ≢ s) p → split_by s p ≡ p ∷ []
  split_alone [] h = refl
  split_alone (b ∷ bs) h = rw (ne_eqb b s h.0, split_alone bs h.1) refl

  pub split_then : (p bs : List ℕ) → Each (λ (c : ℕ). c ≢ s) p → split_by s (p ++ s ∷ bs) ≡ p ∷ split_by s bs
  split_then [] bs h = rw (eq-eqb s s refl) refl
  split_then (c ∷ p) bs h = rw (ne_eqb c s h.0, split_then p bs h.1) refl
