-- A run of a list, event by event: what is left to run from the table at hand, with the events admitted so far added, is
-- what was to run at the start.
use Prim.Native.Nat.{ℕ, ◌+◌, ◌≤◌}
use native.Mathlib.Omega.{arith}
use mathlib.Core.Bool.{Bool, true, false, cond}
use mathlib.Core.List.{List, [], ◌∷◌, ◌++◌}
use mathlib.Core.Path.{◌≡◌, refl, sym, ap, ◌∙◌}
use lib.Dec.{eqb}
use lib.ListN.{length}
use Rattle.model.specs.declared.Plan.{Plan}
use Rattle.events.specs.Events.{is_admitted, answer, list_after}
use Rattle.admission.specs.Table.{table_of, outcome}
use Rattle.table_runs.specs.Run.{ran, event_of, events_of}
use Rattle.admission.specs.declared.Table.{Table}
use Rattle.events.specs.declared.Event.{Event}
use Rattle.events.specs.declared.Event.TheVariants.{Load, Advance, Unload, Pull}
use Rattle.admission.specs.declared.Outcome.{Outcome}
use Rattle.table_runs.specs.declared.Ran.{Ran}

-- a run with so many events admitted before it
abbrev pub after_events : ℕ → Ran → Ran
after_events m r = record { table = r.table; admitted = m + r.admitted }

same_admitted : (r : Ran) (m : ℕ) → r.admitted ≡ m → r ≡ record { table = r.table; admitted = m }
same_admitted r m e = λ i. record { table = r.table; admitted = e i }

pub after_no_event : (r : Ran) → r ≡ after_events 0 r
after_no_event r = same_admitted r (0 + r.admitted) (omega arith)

pub after_after : (m n : ℕ) (r : Ran) → after_events m (after_events n r) ≡ after_events (m + n) r
after_after m n r = same_admitted (after_events m (after_events n r)) (m + n + r.admitted) (omega arith)

pub after_nothing : (m : ℕ) (p : Plan) (t : Table) → after_events m (ran p t []) ≡ record { table = t; admitted = m }
after_nothing m p t = same_admitted (after_events m (ran p t [])) m (omega arith)

-- first some events, then others
pub run_parts : (p : Plan) (t : Table) (es fs : List Event) → ran p t (es ++ fs) ≡ after_events (ran p t es).admitted (ran p (ran p t es).table fs)
run_parts p t [] fs = after_no_event (ran p t fs)
run_parts p t (e ∷ es) fs =
    let one : ℕ = cond (is_admitted (answer p t.list e)) 1 0 in
    let next = table_of (list_after p t.list e) in
    ap (after_events one) (run_parts p next es fs) ∙ after_after one (ran p next es).admitted (ran p (ran p next es).table fs)

-- one event
pub run_one : (p : Plan) (t : Table) (e : Event) (o : Outcome) (r : Ran) → o ≡ outcome p t e
    → (r.table ≡ o.table) × (r.admitted ≡ cond (is_admitted o.answer) 1 0) → r ≡ ran p t (e ∷ [])
run_one p t e o r h made = λ i. record { table = (made.0 ∙ ap (λ (o : Outcome). o.table) h) i; admitted = count i }
  where
    count : r.admitted ≡ cond (is_admitted (answer p t.list e)) 1 0 + 0
    count = made.1 ∙ ap (λ (o : Outcome). cond (is_admitted o.answer) 1 0) h ∙ omega arith

-- a letter is one event at most
pub admitted_one : (p : Plan) (t : Table) (l n k : ℕ) → (ran p t (event_of l n k)).admitted ≤ 1
admitted_one p t l n k = go (eqb l 76) (eqb l 65) (eqb l 85) (eqb l 88)
  where
    counts : (b : Bool) → cond b 1 0 + 0 ≤ 1
    counts true = omega arith
    counts false = omega arith

    go : (a b c d : Bool)
        → (ran p t (cond a (Load n k ∷ []) (cond b (Advance n ∷ []) (cond c (Unload n ∷ []) (cond d (Pull n ∷ []) []))))).admitted ≤ 1
    go true b c d = counts (is_admitted (answer p t.list (Load n k)))
    go false true c d = counts (is_admitted (answer p t.list (Advance n)))
    go false false true d = counts (is_admitted (answer p t.list (Unload n)))
    go false false false true = counts (is_admitted (answer p t.list (Pull n)))
    go false false false false = omega arith

-- the event that is next is run
pub run_step : (l n k : ℕ) (letters jobs kinds xs ys zs : List ℕ) → xs ≡ l ∷ letters → ys ≡ n ∷ jobs → zs ≡ k ∷ kinds
    → (p : Plan) (t : Table) (m : ℕ) (r : Ran) → r ≡ ran p t (event_of l n k)
    → after_events m (ran p t (events_of xs ys zs)) ≡ after_events (m + r.admitted) (ran p r.table (events_of letters jobs kinds))
run_step l n k letters jobs kinds xs ys zs a b c p t m r made =
    let here = event_of l n k in
    let rest = events_of letters jobs kinds in
    (λ i. after_events m (ran p t (events_of (a i) (b i) (c i))))
    ∙ ap (after_events m) (run_parts p t here rest)
    ∙ after_after m (ran p t here).admitted (ran p (ran p t here).table rest)
    ∙ ap (λ (r : Ran). after_events (m + r.admitted) (ran p r.table rest)) (sym made)

-- where a list has ended, no event is left
pub letters_end : (letters jobs kinds : List ℕ) → length letters ≡ 0 → events_of letters jobs kinds ≡ []
letters_end [] jobs kinds h = refl
letters_end (l ∷ letters) jobs kinds h = absurd (omega arith)

pub jobs_end : (letters jobs kinds : List ℕ) → length jobs ≡ 0 → events_of letters jobs kinds ≡ []
jobs_end [] jobs kinds h = refl
jobs_end (l ∷ letters) [] kinds h = refl
jobs_end (l ∷ letters) (n ∷ jobs) kinds h = absurd (omega arith)

pub kinds_end : (letters jobs kinds : List ℕ) → length kinds ≡ 0 → events_of letters jobs kinds ≡ []
kinds_end [] jobs kinds h = refl
kinds_end (l ∷ letters) [] kinds h = refl
kinds_end (l ∷ letters) (n ∷ jobs) [] h = refl
kinds_end (l ∷ letters) (n ∷ jobs) (k ∷ kinds) h = absurd (omega arith)
