-- What holds of each entry of a list, when the list is put together, loses an entry, or has one replaced; a least entry;
-- copies.
use Prim.Native.Nat.{ℕ, zero, suc, ◌+◌, ◌≤◌, ◌<◌}
use native.Mathlib.Nat.{le_refl}
use native.Mathlib.Omega.{arith}
use mathlib.Core.Logic.{◌⊎◌, inl, inr}
use mathlib.Core.Path.{◌≡◌, refl, ap}
use mathlib.Core.List.{List, [], ◌∷◌, ◌++◌, map}
use lib.ListN.{length, take, get_or, replicate}
use Rattle.model.specs.Numbers.{at, Each, Split}
use Rattle.model.proofs.Decide.{decides_le, decided}

module _ {A : Type 0} (P : A → Type 0) where
  pub each_append : (xs ys : List A) → Each P (xs ++ ys) → Each P xs × Each P ys
  each_append [] ys h = (tt, h)
  each_append (x ∷ xs) ys h = let rest = each_append xs ys h.1 in ((h.0, rest.0), rest.1)

  pub append_each : (xs ys : List A) → Each P xs → Each P ys → Each P (xs ++ ys)
  append_each [] ys h k = k
  append_each (x ∷ xs) ys h k = (h.0, append_each xs ys h.1 k)

  pub each_at : (xs : List A) (y : A) (ys : List A) → Each P (xs ++ y ∷ ys) → P y
  each_at xs y ys h = (each_append xs (y ∷ ys) h).1.0

  pub each_removed : (xs : List A) (y : A) (ys : List A) → Each P (xs ++ y ∷ ys) → Each P (xs ++ ys)
  each_removed xs y ys h = let parts = each_append xs (y ∷ ys) h in append_each xs ys parts.0 parts.1.1

  pub each_moved : (xs : List A) (y z : A) (ys : List A) → P z → Each P (xs ++ y ∷ ys) → Each P (xs ++ z ∷ ys)
  each_moved xs y z ys k h = let parts = each_append xs (y ∷ ys) h in append_each xs (z ∷ ys) parts.0 (k, parts.1.1)

pub each_map : {A : Type 0} (P Q : A → Type 0) → ((x : A) → P x → Q x) → (xs : List A) → Each P xs → Each Q xs
each_map P Q f [] h = tt
each_map P Q f (x ∷ xs) h = (f x h.0, each_map P Q f xs h.1)

pub each_both : {A : Type 0} (P Q : A → Type 0) (xs : List A) → Each P xs → Each Q xs → Each (λ (x : A). P x × Q x) xs
each_both P Q [] h k = tt
each_both P Q (x ∷ xs) h k = ((h.0, k.0), each_both P Q xs h.1 k.1)

-- a list split at the entry between two others, at its first, and one entry later
module _ {A : Type 0} where
  abbrev pub split_at : (xs : List A) (y : A) (ys : List A) → Split (xs ++ y ∷ ys)
  split_at xs y ys = record { before = xs; item = y; after = ys; whole = refl }

  abbrev pub split_first : (x : A) (xs : List A) → Split (x ∷ xs)
  split_first x xs = split_at [] x xs

  abbrev pub split_later : {xs : List A} (x : A) → Split xs → Split (x ∷ xs)
  split_later x s =
      record { before = x ∷ s.before; item = s.item; after = s.after; whole = ap (λ (ys : List A). x ∷ ys) s.whole }

-- an entry of the list at which a number is least
pub record Least {A : Type 0} (g : A → ℕ) (all : List A) : Type 0 where
  pub here : Split all
  pub least : Each (λ (x : A). g here.item ≤ g x) all

pub least_entry : {A : Type 0} (g : A → ℕ) (x : A) (xs : List A) → Least g (x ∷ xs)
least_entry g x [] = record { here = split_first x []; least = (le_refl (g x), tt) }
least_entry {A} g x (y ∷ ys) = step (least_entry g y ys)
  where
    step : Least g (y ∷ ys) → Least g (x ∷ y ∷ ys)
    step l = choose (decided (decides_le (g x) (g l.here.item)))
      where
        choose : (g x ≤ g l.here.item) ⊎ (¬ (g x ≤ g l.here.item)) → Least g (x ∷ y ∷ ys)
        choose (inl low) =
            record {
              here = split_first x (y ∷ ys);
              least = (le_refl (g x), each_map (λ (z : A). g l.here.item ≤ g z) (λ (z : A). g x ≤ g z) (λ z h. omega arith) (y ∷ ys) l.least);
            }
        choose (inr high) =
            record { here = split_later x l.here; least = (omega arith, l.least) }

-- an entry that a list of copies lacks, read as the copy, is the copy too
pub replicated : {A : Type 0} (n i : ℕ) (d : A) → get_or (replicate n d) i d ≡ d
replicated zero i d = refl
replicated (suc n) zero d = refl
replicated (suc n) (suc i) d = replicated n i d

-- counted from 1, of zeros
pub zeros_at : (n i : ℕ) → at (replicate n 0) i ≡ 0
zeros_at n zero = refl
zeros_at n (suc i) = replicated n i 0

-- an entry that a list has is the same whatever would stand for one that it lacks
pub entry_there : {A : Type 0} (xs : List A) (i : ℕ) (d e : A) → i < length xs → get_or xs i d ≡ get_or xs i e
entry_there [] i d e h = absurd (omega arith)
entry_there (x ∷ xs) zero d e h = refl
entry_there (x ∷ xs) (suc i) d e h = entry_there xs i d e (omega arith)

module _ {A : Type 0} (P : A → Type 0) where
  -- what holds of everything holds of each entry
  pub every_each : ((x : A) → P x) → (xs : List A) → Each P xs
  every_each h [] = tt
  every_each h (x ∷ xs) = (h x, every_each h xs)

  -- what holds of each of the first n entries holds of the one at an index below n
  pub each_get_d : (xs : List A) (n i : ℕ) (d : A) → Each P (take n xs) → i < n → i < length xs → P (get_or xs i d)
  each_get_d [] n i d h low room = absurd (omega arith)
  each_get_d (x ∷ xs) zero i d h low room = absurd (omega arith)
  each_get_d (x ∷ xs) (suc n) zero d h low room = h.0
  each_get_d (x ∷ xs) (suc n) (suc i) d h low room = each_get_d xs n i d h.1 (omega arith) (omega arith)

pub map_take : {A B : Type 0} (f : A → B) (n : ℕ) (xs : List A) → take n (map f xs) ≡ map f (take n xs)
map_take f zero xs = refl
map_take f (suc n) [] = refl
map_take f (suc n) (x ∷ xs) = ap (λ ys. f x ∷ ys) (map_take f n xs)
