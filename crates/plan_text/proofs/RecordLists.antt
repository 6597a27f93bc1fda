-- Lists of records: what some record of a list is, and how values that are held exactly when a list has their records stay so
-- when one record is added and its entry written.
use Prim.Native.Nat.{ℕ, zero, suc, ◌+◌, ◌-◌, ◌≤◌, ◌<◌}
use native.Mathlib.Numerals.{sub-one}
use native.Mathlib.Omega.{arith}
use mathlib.Core.Bool.{Bool, true, false, cond}
use mathlib.Core.List.{List, [], ◌∷◌, ◌++◌}
use mathlib.Core.Logic.{◌≢◌, ◌⊎◌, inl, inr, ⊎_elim, ◌↔◌}
use mathlib.Core.Path.{◌≡◌, refl, sym, ap, ◌∙◌}
use lib.Dec.{eqb}
use lib.ListN.{length, length-set}
use lib.Seq.{get_or-set_same, get_or-set_other}
use Rattle.model.specs.Numbers.{InRange, at, sum_to, Each}
use Rattle.model.proofs.Decide.{decided, decides_eq}
use Rattle.plan_text.specs.Records.{Some, Has}
use Rattle.plan_text.specs.TextQuestions.{stages_in}
use Rattle.plan_text.specs.Draft.{put, entries_after}
use Rattle.plan_text.specs.declared.Record.{Record}

module _ (P : Record → Type 0) where
  pub some_append : (xs ys : List Record) → Some P (xs ++ ys) → Some P xs ⊎ Some P ys
  some_append [] ys h = inr h
  some_append (x ∷ xs) ys (inl h) = inl (inl h)
  some_append (x ∷ xs) ys (inr h) = ⊎_elim (λ k. inl (inr k)) inr (some_append xs ys h)

  pub append_left : (xs ys : List Record) → Some P xs → Some P (xs ++ ys)
  append_left [] ys x' = elim x' [ ]
  append_left (x ∷ xs) ys (inl h) = inl h
  append_left (x ∷ xs) ys (inr h) = inr (append_left xs ys h)

  pub append_right : (xs ys : List Record) → Some P ys → Some P (xs ++ ys)
  append_right [] ys h = h
  append_right (x ∷ xs) ys h = inr (append_right xs ys h)

  -- the record that it is, with what holds of each
  pub each_some : (Q : Record → Type 0) (xs : List Record) → Each Q xs → Some P xs → (x : Record) × Q x × P x × Has xs x
  each_some Q [] all x'' = elim x'' [ ]
  each_some Q (x ∷ xs) all (inl h) = (x, all.0, h, inl refl)
  each_some Q (x ∷ xs) all (inr h) = let found = each_some Q xs all.1 h in (found.0, found.1, found.2, inr found.3)

  -- no record is one, and each is not one
  pub none_each : (xs : List Record) → (¬ Some P xs) → Each (λ (q : Record). ¬ P q) xs
  none_each [] none = tt
  none_each (x ∷ xs) none = (λ h. none (inl h), none_each xs (λ h. none (inr h)))

  pub each_none : (xs : List Record) → Each (λ (q : Record). ¬ P q) xs → ¬ Some P xs
  each_none [] all x'' = elim x'' [ ]
  each_none (x ∷ xs) all (inl h) = all.0 h
  each_none (x ∷ xs) all (inr h) = each_none xs all.1 h

pub some_map : (P Q : Record → Type 0) → ((x : Record) → P x → Q x) → (xs : List Record) → Some P xs → Some Q xs
some_map P Q f [] x' = elim x' [ ]
some_map P Q f (x ∷ xs) (inl h) = inl (f x h)
some_map P Q f (x ∷ xs) (inr h) = inr (some_map P Q f xs h)

pub has_each : (Q : Record → Type 0) (xs : List Record) (q : Record) → Each Q xs → Has xs q → Q q
has_each Q [] q all x'' = elim x'' [ ]
has_each Q (x ∷ xs) q all (inl e) = rw e at all.0
has_each Q (x ∷ xs) q all (inr h) = has_each Q xs q all.1 h

-- values under keys that are held exactly when the list has the record of key and value
module _ {K : Type 0} (of : K → ℕ → Record) (Before After : K → ℕ → Type 0) (rs : List Record) (r : Record)
    (held : (key : K) (v : ℕ) → Before key v ↔ Has rs (of key v)) where
  abbrev Held : K → ℕ → Type 0
  Held key v = After key v ↔ Has (rs ++ r ∷ []) (of key v)

  at_last : (q : Record) → Has (r ∷ []) q → r ≡ q
  at_last q (inr x') = elim x' [ ]
  at_last q (inl e) = e

  -- a record of other values changes nothing
  pub held_still : ((key : K) (v : ℕ) → r ≢ of key v) → ((key : K) (v : ℕ) → After key v ↔ Before key v) → (key : K) (v : ℕ) → Held key v
  held_still other same key v = (
    λ h. append_left (λ q. q ≡ of key v) rs (r ∷ []) ((held key v).0 ((same key v).0 h)),
    λ h.
        ⊎_elim (λ k. (same key v).1 ((held key v).1 k)) (λ (k : Has (r ∷ []) (of key v)). absurd (other key v (at_last (of key v) k)))
        (some_append (λ q. q ≡ of key v) rs (r ∷ []) h),
  )

  -- the first record of its key writes its value there, and leaves the others
  module _ (key : K) (v : ℕ) (is : r ≡ of key v) (first : (w : ℕ) → ¬ Before key w) (now : After key v)
      (only : (w : ℕ) → After key w → v ≡ w)
      (others : (k : K) → (¬ (key ≡ k)) → (w : ℕ) → After k w ↔ Before k w)
      (apart : (k : K) (w : ℕ) → of key v ≡ of k w → (key ≡ k) × (v ≡ w))
      (decide : (k : K) → (key ≡ k) ⊎ (¬ (key ≡ k))) where
    pub held_more : (k : K) (w : ℕ) → Held k w
    held_more k w = (there, back)
      where
        there : After k w → Has (rs ++ r ∷ []) (of k w)
        there h =
            ⊎_elim
            (λ (e : key ≡ k).
            let same : v ≡ w = only w (rw (← e) at h) in
            append_right (λ q. q ≡ of k w) rs (r ∷ []) (inl (is ∙ cc)))
            (λ (e : ¬ (key ≡ k)). append_left (λ q. q ≡ of k w) rs (r ∷ []) ((held k w).0 ((others k e w).0 h)))
            (decide k)

        back : Has (rs ++ r ∷ []) (of k w) → After k w
        back h =
            ⊎_elim
            (λ (b : Has rs (of k w)).
            let here : Before k w = (held k w).1 b in
            ⊎_elim (λ (e : key ≡ k). absurd (first w (rw (← e) at here))) (λ (e : ¬ (key ≡ k)). (others k e w).1 here) (decide k))
            (λ (b : Has (r ∷ []) (of k w)). let e = apart k w (sym is ∙ at_last (of k w) b) in rw (← e.0, ← e.1) now)
            (some_append (λ q. q ≡ of k w) rs (r ∷ []) h)

-- an entry of a list, counted from 1, where one is put
pub put_same : (xs : List ℕ) (i x : ℕ) → InRange i (length xs) → at (put xs i x) i ≡ x
put_same xs zero x h = absurd (omega arith)
put_same xs (suc i) x h = rw sub-one (get_or-set_same xs i x 0 (omega arith))

pub put_other : (xs : List ℕ) (i j x : ℕ) → 1 ≤ i → j ≢ i → at (put xs i x) j ≡ at xs j
put_other xs zero j x h n = absurd (omega arith)
put_other xs (suc i) zero x h n = refl
put_other xs (suc i) (suc j) x h n = rw sub-one (get_or-set_other xs i j x 0 (λ e. n (ap suc e)))

pub put_length : (xs : List ℕ) (i x : ℕ) → length (put xs i x) ≡ length xs
put_length xs i x = length-set xs (i - 1) x

-- entries after a record are as many
pub entries_length : (n : ℕ) (xs : List ℕ) (r : Record) → length (entries_after n xs r) ≡ length xs
entries_length n xs r = go (eqb r.section n)
  where
    go : (b : Bool) → length (cond b (put xs r.first r.second) xs) ≡ length xs
    go true = put_length xs r.first r.second
    go false = refl

-- the sum of the entries before the one put
pub sum_before : (xs : List ℕ) (i x : ℕ) → 1 ≤ i → (n : ℕ) → n < i → sum_to n (at (put xs i x)) ≡ sum_to n (at xs)
sum_before xs i x low zero h = refl
sum_before xs i x low (suc n) h = rw (sum_before xs i x low n (omega arith), put_other xs i (suc n) x low (λ e. omega arith)) refl

-- the sum after one is put where there was 0, and a sum beyond which there are only zeros
module _ (xs : List ℕ) (i v : ℕ) (room : InRange i (length xs)) (empty : at xs i ≡ 0) where
  pub sum_put : (n : ℕ) → i ≤ n → sum_to n (at (put xs i v)) ≡ sum_to n (at xs) + v
  sum_put zero h = absurd (omega (arith, room))
  sum_put (suc n) h =
      ⊎_elim
      (λ (e : suc n ≡ i).
      let before = sum_before xs i v room.0 n (omega arith) in
      let last : at (put xs i v) (suc n) ≡ v = ap (at (put xs i v)) e ∙ put_same xs i v room in
      let old : at xs (suc n) ≡ 0 = ap (at xs) e ∙ empty in
      omega (arith, before, last, old))
      (λ (ne : ¬ (suc n ≡ i)).
      let before = sum_put n (omega (arith, ne)) in
      let last = put_other xs i (suc n) v room.0 ne in
      omega (arith, before, last))
      (decided (decides_eq (suc n) i))

pub sum_beyond : (f : ℕ → ℕ) (n m : ℕ) → n ≤ m → ((t : ℕ) → n < t → f t ≡ 0) → sum_to m f ≡ sum_to n f
sum_beyond f n zero h zeros = let e : n ≡ 0 = omega arith in rw e refl
sum_beyond f n (suc m) h zeros =
    ⊎_elim (λ (e : n ≡ suc m). rw e refl)
    (λ (ne : ¬ (n ≡ suc m)). omega (arith, sum_beyond f n m (omega (arith, ne)) zeros, zeros (suc m) (omega (arith, ne))))
    (decided (decides_eq n (suc m)))

-- the stages that two lists of records say together
pub stages_append : (rs qs : List Record) → stages_in (rs ++ qs) ≡ stages_in rs + stages_in qs
stages_append [] qs = omega arith
stages_append (r ∷ rs) qs = omega (arith, stages_append rs qs)
