-- A test decides a condition: where it passes the condition holds, and where it fails the condition does not. Tests that
-- are put together as conditions are decide what the conditions say together, so each computed question follows its
-- worded one part by part.
use Prim.Native.Nat.{ℕ, zero, suc, ◌≤◌, ◌<◌}
use native.Mathlib.Omega.{arith}
use mathlib.Core.Bool.{Bool, true, false, not, cond, ◌&&◌, ◌||◌, false≢true}
use mathlib.Core.List.{List, [], ◌∷◌, ◌++◌}
use mathlib.Core.Logic.{◌⊎◌, inl, inr, ⊎_elim, ⊎_map}
use mathlib.Core.Path.{◌≡◌, refl, sym, subst, subst⁻¹, ◌∙◌}
use lib.ListN.{drop}
use lib.Dec.{leb, ltb, eqb}
use borrow.Author.Tests.{leb-true, leb-false, eqb-true, eqb-false, eq-eqb, ne_eqb}
use Rattle.model.specs.Numbers.{InRange, in_range, entry, all_to, some_to, lowest, Lowest, greatest, Greatest, Each, each}
use Rattle.model.specs.Questions.{Question, Condition, answer_of, EachCondition, AllHold, FirstFailure}

pub data Decides (P : Type 0) : Bool → Type 0 where
  holding : P → Decides P true
  failing : ¬ P → Decides P false

module _ {P : Type 0} where
  pub holds : {b : Bool} → Decides P b → b ≡ true → P
  holds (holding h) e = h
  holds (failing h) e = absurd (false≢true e)

  pub passes : {b : Bool} → Decides P b → P → b ≡ true
  passes (holding h) k = refl
  passes (failing h) k = absurd (h k)

  pub fails : {b : Bool} → Decides P b → (¬ P) → b ≡ false
  fails (holding h) k = absurd (k h)
  fails (failing h) k = refl

  -- two tests of one condition are the same
  pub same_test : {a b : Bool} → Decides P a → Decides P b → a ≡ b
  same_test (holding h) d = sym (passes d h)
  same_test (failing h) d = sym (fails d h)

  pub decides_not : {b : Bool} → Decides P b → Decides (¬ P) (not b)
  decides_not (holding h) = failing (λ k. k h)
  decides_not (failing h) = holding h

  -- a condition that is decided holds or does not
  pub decided : {b : Bool} → Decides P b → P ⊎ (¬ P)
  decided (holding h) = inl h
  decided (failing h) = inr h

  pub decides_iff : {Q : Type 0} {b : Bool} → (P → Q) → (Q → P) → Decides P b → Decides Q b
  decides_iff f g (holding h) = holding (f h)
  decides_iff f g (failing h) = failing (λ q. h (g q))

  pub decides_or : {Q : Type 0} {a b : Bool} → Decides P a → Decides Q b → Decides (P ⊎ Q) (a || b)
  decides_or (holding h) d = holding (inl h)
  decides_or (failing h) (holding k) = holding (inr k)
  decides_or (failing h) (failing k) = failing (⊎_elim h k)

infixl 40 ◌and◌
-- nested as `&&` is
pub ◌and◌ : {P Q : Type 0} {a b : Bool} → Decides P a → Decides Q b → Decides (P × Q) (a && b)
holding h and holding k = holding (h, k)
holding h and failing k = failing (λ both. k both.1)
failing h and d = failing (λ both. h both.0)

-- a second test that decides its condition only where the first holds
pub decides_then : {P Q : Type 0} {a b : Bool} → Decides P a → (P → Decides Q b) → Decides (P × Q) (a && b)
decides_then (holding h) d = decides_iff (λ k. (h, k)) (λ both. both.1) (d h)
decides_then (failing h) d = failing (λ both. h both.0)

pub decides_le : (a b : ℕ) → Decides (a ≤ b) (leb a b)
decides_le a b = go (leb a b) refl
  where
    go : (c : Bool) → leb a b ≡ c → Decides (a ≤ b) c
    go true e = holding (leb-true a b e)
    go false e = let h = leb-false a b e in failing (λ k. omega arith)

pub decides_lt : (a b : ℕ) → Decides (a < b) (ltb a b)
decides_lt a b = decides_le (suc a) b

pub decides_eq : (a b : ℕ) → Decides (a ≡ b) (eqb a b)
decides_eq a b = go (eqb a b) refl
  where
    go : (c : Bool) → eqb a b ≡ c → Decides (a ≡ b) c
    go true e = holding (eqb-true a b e)
    go false e = failing (eqb-false a b e)

-- a number that is 0 where a condition holds, and else above it
decides_zero : {P : Type 0} {m : ℕ} → ((m ≡ 0) × P) ⊎ ((0 < m) × (¬ P)) → Decides P (eqb m 0)
decides_zero {P} {m} (inl h) = decides_iff (λ e. h.1) (λ p. h.0) (decides_eq m 0)
decides_zero {P} {m} (inr h) = decides_iff (λ e. absurd (omega (arith, h.0, e))) (λ p. absurd (h.1 p)) (decides_eq m 0)

pub decides_range : (i n : ℕ) → Decides (InRange i n) (in_range i n)
decides_range i n = decides_le 1 i and decides_le i n

at_or_below : (n i : ℕ) → InRange i (suc n) → InRange i n ⊎ (suc n ≡ i)
at_or_below n i h = go (leb i n) refl
  where
    go : (b : Bool) → leb i n ≡ b → InRange i n ⊎ (suc n ≡ i)
    go true e = inl (h.0, leb-true i n e)
    go false e = inr (omega (arith, leb-false i n e, h.1))

-- what holds at each of 1 to n, and at n + 1
pub extend : (P : ℕ → Type 0) (n : ℕ) → ((i : ℕ) → InRange i n → P i) → P (suc n) → (i : ℕ) → InRange i (suc n) → P i
extend P n below top i h = ⊎_elim (below i) (λ (e : suc n ≡ i). subst P e top) (at_or_below n i h)

-- over the numbers 1 to n
module _ (P : ℕ → Type 0) (f : ℕ → Bool) where
  pub decides_all : (n : ℕ) → ((i : ℕ) → InRange i n → Decides (P i) (f i)) → Decides ((i : ℕ) → InRange i n → P i) (all_to n f)
  decides_all zero d = holding (λ i h. absurd (omega arith))
  decides_all (suc n) d =
      decides_iff (λ both. extend P n both.0 both.1) down (decides_all n (λ i h. d i (omega arith)) and d (suc n) (omega arith))
    where
      down : ((i : ℕ) → InRange i (suc n) → P i) → ((i : ℕ) → InRange i n → P i) × P (suc n)
      down g = (λ i h. g i (omega arith), g (suc n) (omega arith))

  pub decides_some : (n : ℕ) → ((i : ℕ) → InRange i n → Decides (P i) (f i)) → Decides ((i : ℕ) × InRange i n × P i) (some_to n f)
  decides_some zero d = failing (λ h. absurd (omega (arith, h.1)))
  decides_some (suc n) d =
      decides_iff up down (decides_or (decides_some n (λ i h. d i (omega arith))) (d (suc n) (omega arith)))
    where
      up : ((i : ℕ) × InRange i n × P i) ⊎ P (suc n) → (i : ℕ) × InRange i (suc n) × P i
      up (inl h) = (h.0, omega (arith, h.1), h.2)
      up (inr h) = (suc n, omega arith, h)

      down : (i : ℕ) × InRange i (suc n) × P i → ((j : ℕ) × InRange j n × P j) ⊎ P (suc n)
      down h = ⊎_elim (λ (k : InRange h.0 n). inl (h.0, k, h.2)) (λ (e : suc n ≡ h.0). inr (subst⁻¹ P e h.2)) (at_or_below n h.0 h.1)

  -- what a search over 1 to n finds: nothing where P holds at each number, and else the lowest at which it does not
  abbrev Finds : ℕ → ℕ → Type 0
  Finds n m = ((m ≡ 0) × ((i : ℕ) → InRange i n → P i)) ⊎ Lowest n P m

  searched : (n : ℕ) → ((i : ℕ) → InRange i n → Decides (P i) (f i)) → Finds n (lowest n f)
  searched zero d = inl (refl, λ i h. absurd (omega arith))
  searched (suc n) d = step (searched n (λ i h. d i (omega arith)))
    where
      top : {b : Bool} → Decides (P (suc n)) b → ((i : ℕ) → InRange i n → P i) → Finds (suc n) (cond b 0 (suc n))
      top (holding h) all = inl (refl, extend P n all h)
      top (failing h) all = inr (record { within = omega arith; fails = h; below = λ i low high. all i (omega arith) })

      step : Finds n (lowest n f) → Finds (suc n) (lowest (suc n) f)
      step (inl none) = rw (eq-eqb (lowest n f) 0 none.0) (top (d (suc n) (omega arith)) none.1)
      step (inr l) =
          rw (ne_eqb (lowest n f) 0 (λ e. omega (arith, l.within)))
          (inr (record { within = omega (arith, l.within); fails = l.fails; below = l.below }))

  module _ (n : ℕ) (d : (i : ℕ) → InRange i n → Decides (P i) (f i)) where
    pub decides_lowest : Decides ((i : ℕ) → InRange i n → P i) (eqb (lowest n f) 0)
    decides_lowest = decides_zero (⊎_map (λ none. none) (λ l. (l.within.0, λ all. l.fails (all _ l.within))) (searched n d))

    pub lowest_found : (¬ ((i : ℕ) → InRange i n → P i)) → Lowest n P (lowest n f)
    lowest_found h = ⊎_elim (λ s. absurd (h s.1)) (λ (l : Lowest n P (lowest n f)). l) (searched n d)

-- a search finds one of 1 to n or says 0
pub lowest_within : (n : ℕ) (f : ℕ → Bool) → lowest n f ≤ n
lowest_within n f = ⊎_elim (λ none. omega (arith, none.0)) (λ l. l.within.1) (searched (λ i. f i ≡ true) f n (λ i h. passing (f i)))
  where
    passing : (b : Bool) → Decides (b ≡ true) b
    passing true = holding refl
    passing false = failing false≢true

-- the search for the lowest of 1 to n at which f is greatest, of which there is one
module _ (f : ℕ → ℕ) where
  pub greatest_one : {n : ℕ} (i j : ℕ) → Greatest n f i → Greatest n f j → i ≡ j
  greatest_one i j a b = omega (arith, not_below i j a b, not_below j i b a)
    where
      not_below : {n : ℕ} (i j : ℕ) → Greatest n f i → Greatest n f j → ¬ (i < j)
      not_below i j a b h = omega (arith, b.below i a.within.0 h, a.most j b.within)

  -- what it finds: f is nowhere above the value found; and that is 0 with number 0, or f at the number found, above 0 and above f at each lower one
  record FindsGreatest (n : ℕ) (m : ℕ × ℕ) : Type 0 where
    pub most : (j : ℕ) → InRange j n → f j ≤ m.1
    pub found : ((m.0 ≡ 0) × (m.1 ≡ 0)) ⊎ (InRange m.0 n × (m.1 ≡ f m.0) × (0 < m.1) × ((j : ℕ) → 1 ≤ j → j < m.0 → f j < m.1))

  searched_greatest : (n : ℕ) → FindsGreatest n (greatest n f)
  searched_greatest zero = record { most = λ j h. absurd (omega arith); found = inl (refl, refl) }
  searched_greatest (suc n) = step (greatest n f) (searched_greatest n) (decides_lt (greatest n f).1 (f (suc n)))
    where
      step : (m : ℕ × ℕ) → FindsGreatest n m → {b : Bool} → Decides (m.1 < f (suc n)) b → FindsGreatest (suc n) (cond b (suc n, f (suc n)) m)
      step m s (holding more) =
          record {
            most = extend (λ j. f j ≤ f (suc n)) n (λ j h. omega (arith, s.most j h, more)) (omega arith);
            found = inr (omega arith, refl, omega arith, λ j low high. omega (arith, s.most j (omega arith), more));
          }
      step m s (failing same) =
          record {
            most = extend (λ j. f j ≤ m.1) n s.most (omega arith);
            found = ⊎_map (λ none. none) (λ h. (omega (arith, h.0), h.1, h.2, h.3)) s.found;
          }

  module _ (n : ℕ) where
    pub greatest_within : (greatest n f).0 ≤ n
    greatest_within = ⊎_elim (λ none. omega (arith, none.0)) (λ h. h.0.1) (searched_greatest n).found

    pub greatest_at_most : (most : ℕ) → ((j : ℕ) → InRange j n → f j ≤ most) → (greatest n f).1 ≤ most
    greatest_at_most most h = ⊎_elim (λ none. omega (arith, none.1)) (λ k. omega (arith, h _ k.0, k.1)) (searched_greatest n).found

    -- so f is 0 at each number, or the number found is the one at which it is greatest
    pub greatest_found : (((j : ℕ) → InRange j n → f j ≡ 0) × ((greatest n f).0 ≡ 0) × ((greatest n f).1 ≡ 0))
        ⊎ (Greatest n f (greatest n f).0 × ((greatest n f).1 ≡ f (greatest n f).0) × (0 < f (greatest n f).0))
    greatest_found =
        let s = searched_greatest n in
        ⊎_map (λ none. (λ j h. omega (arith, s.most j h, none.1), none.0, none.1))
        (λ h. (
          record { within = h.0; most = λ j r. omega (arith, s.most j r, h.1); below = λ j low high. omega (arith, h.3 j low high, h.1) },
          h.1,
          omega (arith, h.1, h.2),
        ))
        s.found

    -- a condition that holds exactly where f is 0
    pub decides_greatest : (P : ℕ → Type 0) → ((i : ℕ) → InRange i n → (P i → f i ≡ 0) × (f i ≡ 0 → P i))
        → Decides ((i : ℕ) → InRange i n → P i) (eqb (greatest n f).0 0)
    decides_greatest P zero-where =
        decides_zero
        (⊎_map (λ none. (none.1, λ i h. (zero-where i h).1 (none.0 i h)))
        (λ h. (h.0.within.0, λ all. omega (arith, (zero-where _ h.0.within).0 (all _ h.0.within), h.2)))
        greatest_found)

-- over the entries of a list
module _ {A : Type 0} {P : A → Type 0} {f : A → Bool} (d : (x : A) → Decides (P x) (f x)) where
  pub decides_each : (xs : List A) → Decides (Each P xs) (each f xs)
  decides_each [] = holding tt
  decides_each (x ∷ xs) = d x and decides_each xs

  -- beyond the first n entries, with an entry z that counts as met where the list ends
  pub decides_beyond : (z : A) → P z → (n : ℕ) (xs : List A) → Decides ((i : ℕ) → n < i → P (entry xs i z)) (each f (drop n xs))
  decides_beyond z h zero [] = holding from
    where
      from : (i : ℕ) → 0 < i → P (entry [] i z)
      from zero k = h
      from (suc i) k = h
  decides_beyond z h zero (x ∷ xs) = decides_iff up down (d x and decides_beyond z h zero xs)
    where
      up : P x × ((i : ℕ) → 0 < i → P (entry xs i z)) → (i : ℕ) → 0 < i → P (entry (x ∷ xs) i z)
      up both zero k = h
      up both (suc zero) k = both.0
      up both (suc (suc i)) k = both.1 (suc i) (omega arith)

      down : ((i : ℕ) → 0 < i → P (entry (x ∷ xs) i z)) → P x × ((i : ℕ) → 0 < i → P (entry xs i z))
      down g = (g 1 (omega arith), rest)
        where
          rest : (i : ℕ) → 0 < i → P (entry xs i z)
          rest zero k = h
          rest (suc i) k = g (suc (suc i)) (omega arith)
  decides_beyond z h (suc n) [] = holding from
    where
      from : (i : ℕ) → suc n < i → P (entry [] i z)
      from zero k = h
      from (suc i) k = h
  decides_beyond z h (suc n) (x ∷ xs) = decides_iff up down (decides_beyond z h n xs)
    where
      up : ((i : ℕ) → n < i → P (entry xs i z)) → (i : ℕ) → suc n < i → P (entry (x ∷ xs) i z)
      up g zero k = h
      up g (suc zero) k = absurd (omega arith)
      up g (suc (suc i)) k = g (suc i) (omega arith)

      down : ((i : ℕ) → suc n < i → P (entry (x ∷ xs) i z)) → (i : ℕ) → n < i → P (entry xs i z)
      down g zero k = h
      down g (suc i) k = g (suc (suc i)) (omega arith)

-- Questions that are computed answer questions that are worded: each is decided where those before it hold, its refusal
-- says what it should, and no refusal is the acceptance.
pub data Answers {A : Type 0} (isOk : A → Bool) : List (Question A) → List (Condition A) → Type 1 where
  done : Answers isOk [] []
  asked : {q : Question A} {c : Condition A} {qs : List (Question A)} {cs : List (Condition A)}
      → Decides c.holds q.met → ((¬ c.holds) → c.refusal q.refusal) → isOk q.refusal ≡ false → (c.holds → Answers isOk qs cs)
      → Answers isOk (q ∷ qs) (c ∷ cs)

-- one question, and others after it
pub choose : {A P : Type 0} {b : Bool} (F R : A → Type 0) (x y : A) → Decides P b → ((¬ P) → R y) → (P → F x)
    → ((¬ P) × R (cond b x y)) ⊎ (P × F (cond b x y))
choose F R x y (holding h) refusal rest = inr (h, rest h)
choose F R x y (failing h) refusal rest = inl (h, refusal h)

-- first some questions, then others
pub failure_append : {A : Type 0} (Ok : A → Type 0) (cs ds : List (Condition A)) (a : A)
    → FirstFailure (FirstFailure Ok ds) cs a → FirstFailure Ok (cs ++ ds) a
failure_append Ok [] ds a h = h
failure_append Ok (c ∷ cs) ds a (inl h) = inl h
failure_append Ok (c ∷ cs) ds a (inr h) = inr (h.0, failure_append Ok cs ds a h.1)

-- what holds of each question of two lists together
module _ {A : Type 0} (P : Condition A → Type 0) where
  pub conditions_split : (cs ds : List (Condition A)) → EachCondition P (cs ++ ds) → EachCondition P cs × EachCondition P ds
  conditions_split [] ds h = (tt, h)
  conditions_split (c ∷ cs) ds h = let rest = conditions_split cs ds h.1 in ((h.0, rest.0), rest.1)

  pub conditions_append : (cs ds : List (Condition A)) → EachCondition P cs → EachCondition P ds → EachCondition P (cs ++ ds)
  conditions_append [] ds h k = k
  conditions_append (c ∷ cs) ds h k = (h.0, conditions_append cs ds h.1 k)

-- the question is met; its refusal leaves one answer
abbrev pub Holds : {A : Type 0} → Condition A → Type 0
Holds c = c.holds

abbrev pub OneRefusal : {A : Type 0} → Condition A → Type 0
OneRefusal {A} c = (a b : A) → c.refusal a → c.refusal b → a ≡ b

-- where each refusal and the acceptance leave one answer, only one is the first failure's
pub failure_one : {A : Type 0} (Ok : A → Type 0) → ((a b : A) → Ok a → Ok b → a ≡ b) → (cs : List (Condition A)) → EachCondition OneRefusal cs
    → (a b : A) → FirstFailure Ok cs a → FirstFailure Ok cs b → a ≡ b
failure_one Ok one [] each a b h k = one a b h k
failure_one Ok one (c ∷ cs) each a b (inl h) (inl k) = each.0 a b h.1 k.1
failure_one Ok one (c ∷ cs) each a b (inl h) (inr k) = absurd (h.0 k.0)
failure_one Ok one (c ∷ cs) each a b (inr h) (inl k) = absurd (k.0 h.0)
failure_one Ok one (c ∷ cs) each a b (inr h) (inr k) = failure_one Ok one cs each.1 a b h.1 k.1

module _ {A : Type 0} (isOk : A → Bool) (ok : A) where
  -- what is wanted of the acceptance is wanted only where all questions are met
  pub first_failure_then : (Ok : A → Type 0) {qs : List (Question A)} {cs : List (Condition A)} → Answers isOk qs cs → (AllHold cs → Ok ok)
      → FirstFailure Ok cs (answer_of ok qs)
  first_failure_then Ok done good = good tt
  first_failure_then Ok (asked {q} {c} {qs} {cs} d r o rest) good =
      choose (FirstFailure Ok cs) c.refusal (answer_of ok qs) q.refusal d r (λ h. first_failure_then Ok (rest h) (λ all. good (h, all)))

  pub first_failure : (Ok : A → Type 0) → Ok ok → {qs : List (Question A)} {cs : List (Condition A)} → Answers isOk qs cs → FirstFailure Ok cs (answer_of ok qs)
  first_failure Ok good answers = first_failure_then Ok answers (λ all. good)

  pub accepted : {qs : List (Question A)} {cs : List (Condition A)} → Answers isOk qs cs → AllHold cs → answer_of ok qs ≡ ok
  accepted done h = refl
  accepted (asked {q} {c} {qs} {cs} d r o rest) h = rw (passes d h.0) (accepted (rest h.0) h.1)

  pub all_hold : {qs : List (Question A)} {cs : List (Condition A)} → Answers isOk qs cs → isOk (answer_of ok qs) ≡ true → AllHold cs
  all_hold done h = tt
  all_hold (asked {q} {c} {qs} {cs} d r o rest) h = step (λ k. all_hold (rest k)) d h
    where
      step : (c.holds → isOk (answer_of ok qs) ≡ true → AllHold cs)
          → {b : Bool} → Decides c.holds b → isOk (cond b (answer_of ok qs) q.refusal) ≡ true → c.holds × AllHold cs
      step later (holding k) accepted = (k, later k accepted)
      step later (failing k) accepted = absurd (false≢true (sym o ∙ accepted))
