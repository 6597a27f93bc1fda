-- Lists one behind the other: what is in them, in what order their keys stand, and their text.
use Prim.Native.Nat.{ℕ, zero, suc, ◌+◌, ◌≤◌, ◌<◌}
use native.Mathlib.Omega.{arith}
use mathlib.Core.Bool.{Bool, true, false, cond}
use mathlib.Core.List.{List, [], ◌∷◌, ◌++◌, append_assoc}
use mathlib.Core.Logic.{inl, inr, ⊎_elim}
use mathlib.Core.Path.{◌≡◌, refl, sym, subst}
use lib.Dec.{eqb}
use borrow.Author.Tests.{eq-eqb, ne_eqb}
use Rattle.model.specs.Numbers.{InRange, at, Each}
use Rattle.model.proofs.Decide.{decided, decides_eq}
use Rattle.model.proofs.Lists.{append_each}
use Rattle.plan_text.specs.Records.{key_of, Some, Has}
use Rattle.plan_text.specs.declared.Record.{Record}
use Rattle.plan_text.proofs.RecordLists.{some_append, append_left, append_right}
use Rattle.canonical_text.specs.CanonicalText.{list_to, valued, entry_records, text_of}
use Rattle.canonical_text.specs.Order.{Below, Rising}

-- what is in one of them is in all of them, and the other way round
module _ (P : Record → Type 0) (f : ℕ → List Record) where
  pub some_to : (n : ℕ) → Some P (list_to n f) → (i : ℕ) × InRange i n × Some P (f i)
  some_to zero h = elim h [ ]
  some_to (suc n) h =
      ⊎_elim (λ k. let found = some_to n k in (found.0, (found.1.0, omega (arith, found.1)), found.2)) (λ k. (suc n, (omega arith, omega arith), k))
      (some_append P (list_to n f) (f (suc n)) h)

  pub to_some : (n i : ℕ) → InRange i n → Some P (f i) → Some P (list_to n f)
  to_some zero i within h = absurd (omega arith)
  to_some (suc n) i within h =
      ⊎_elim (λ (e : i ≡ suc n). append_right P (list_to n f) (f (suc n)) (rw e at h))
      (λ (ne : ¬ (i ≡ suc n)). append_left P (list_to n f) (f (suc n)) (to_some n i (within.0, omega (arith, within, ne)) h))
      (decided (decides_eq i (suc n)))

-- what is in a list of one record
pub only : (x y : Record) → Has (x ∷ []) y → y ≡ x
only x y (inr x'') = elim x'' [ ]
only x y (inl e) = sym e

-- and in that of a value
pub valued_found : (v : ℕ) (of : ℕ → Record) (x : Record) → Has (valued v of) x → (1 ≤ v) × (x ≡ of v)
valued_found v of x h =
    ⊎_elim (λ (e : v ≡ 0). absurd (none (rw (eq-eqb v 0 e) at h))) (λ (ne : ¬ (v ≡ 0)). (omega (arith, ne), only (of v) x (rw (ne_eqb v 0 ne) at h)))
    (decided (decides_eq v 0))
  where
    none : Has [] x → ⊥
    none k = k

-- what holds of all that is in a list holds of each
pub each_has : (P : Record → Type 0) (xs : List Record) → ((x : Record) → Has xs x → P x) → Each P xs
each_has P [] h = tt
each_has P (x ∷ xs) h = (h x (inl refl), each_has P xs (λ y k. h y (inr k)))

-- keys that rise in two lists, and from the one to the other
abbrev pub Before : List Record → List Record → Type 0
Before xs ys = (x y : Record) → Has xs x → Has ys y → Below (key_of x) (key_of y)

pub rising_append : (xs ys : List Record) → Rising xs → Rising ys → Before xs ys → Rising (xs ++ ys)
rising_append [] ys h k b = k
rising_append (x ∷ xs) ys h k b = (
  append_each _ xs ys h.0 (each_has _ ys (λ y has. b x y (inl refl) has)),
  rising_append xs ys h.1 k (λ y z mine yours. b y z (inr mine) yours),
)

pub rising_to : (f : ℕ → List Record) (n : ℕ) → ((i : ℕ) → InRange i n → Rising (f i))
    → ((i j : ℕ) → InRange i n → InRange j n → i < j → Before (f i) (f j)) → Rising (list_to n f)
rising_to f zero rises apart = tt
rising_to f (suc n) rises apart =
    rising_append (list_to n f) (f (suc n))
    (rising_to f n (λ i h. rises i (h.0, omega (arith, h))) (λ i j h k l. apart i j (h.0, omega (arith, h)) (k.0, omega (arith, k)) l))
    (rises (suc n) (omega arith, omega arith))
    (λ x y has later.
    let found = some_to (λ q. q ≡ x) f n has in
    apart found.0 (suc n) (found.1.0, omega (arith, found.1)) (omega arith, omega arith) (omega (arith, found.1)) x y found.2 later)

-- the record of a value, where there is one
valued_rises : (v : ℕ) (of : ℕ → Record) → Rising (valued v of)
valued_rises v of = go (eqb v 0)
  where
    go : (b : Bool) → Rising (cond b [] (of v ∷ []))
    go true = tt
    go false = (tt, tt)

-- one of a family of records
abbrev pub One : (ℕ → Record) → Record → Type 0
One of x = (v : ℕ) × (x ≡ of v)

pub one_valued : (v : ℕ) (of : ℕ → Record) (x : Record) → Has (valued v of) x → One of x
one_valued v of x h = (v, (valued_found v of x h).1)

abbrev pub OneOf : (ℕ → ℕ → Record) → Record → Type 0
OneOf of x = (i : ℕ) × One (of i) x

pub one_to : (of : ℕ → ℕ → Record) (n : ℕ) (f : ℕ → List Record) → ((i : ℕ) (x : Record) → Has (f i) x → One (of i) x) → (x : Record) → Has (list_to n f) x → OneOf of x
one_to of n f one x h = let found = some_to (λ q. q ≡ x) f n h in (found.0, one found.0 x found.2)

-- the keys of two records whose numbers are given
pub below_as : (x y q r : Record) → x ≡ q → y ≡ r → Below (key_of q) (key_of r) → Below (key_of x) (key_of y)
below_as x y q r e f h = subst (λ k. Below (key_of k) (key_of y)) (sym e) (subst (λ k. Below (key_of q) (key_of k)) (sym f) h)

-- the records of values under one number
pub values_rise : (of : ℕ → ℕ → Record) → ((i j v w : ℕ) → i < j → Below (key_of (of i v)) (key_of (of j w))) → (f : ℕ → ℕ) (n : ℕ)
    → Rising (list_to n (λ i. valued (f i) (of i)))
values_rise of below f n =
    rising_to (λ i. valued (f i) (of i)) n (λ i h. valued_rises (f i) (of i))
    (λ i j h k l x y has later.
    let a = one_valued (f i) (of i) x has in
    let b = one_valued (f j) (of j) y later in
    below_as x y _ _ a.1 b.1 (below i j a.0 b.0 l))

pub entries_rise : (of : ℕ → ℕ → Record) → ((i j v w : ℕ) → i < j → Below (key_of (of i v)) (key_of (of j w))) → (n : ℕ) (xs : List ℕ)
    → Rising (entry_records of n xs)
entries_rise of below n xs = values_rise of below (at xs) n

-- the text of two lists
pub text_append : (xs ys : List Record) → text_of (xs ++ ys) ≡ text_of xs ++ text_of ys
text_append [] ys = refl
text_append (x ∷ xs) ys = rw (text_append xs ys, append_assoc) refl
