use Rattle.std.proofs.Common.{◌≡◌, not, ℕ, Bool, true, false, ◌&&◌, ◌||◌, List, [], ◌∷◌, refl, sym, ap, ◌∙◌, eqb}
use Rattle.std.specs.List.{list_any}
use Rattle.model.specs.Numbers.{each}
use Rattle.model.specs.Jobs.{distinct}
use Rattle.table_agreement.proofs.all_distinct.Goals as goal

-- that no entry equals a number, and that one does
none_equals : (n : ℕ) (ns : List ℕ) → each (λ (m : ℕ). not (eqb m n)) ns ≡ not (list_any (λ m. eqb m n) ns)
none_equals n [] = refl
none_equals n (m ∷ ns) =
    elim (eqb m n) as (λ (b : Bool). (not b && each (λ (m : ℕ). not (eqb m n)) ns) ≡ not (b || list_any (λ m. eqb m n) ns)) [
      | true ↦ refl
      | false ↦ none_equals n ns
    ]

-- a number and those after it, where it was looked for among these
first_apart : (n : ℕ) (ns rest : List ℕ) (again : Bool) → rest ≡ n ∷ ns → again ≡ list_any (λ m. eqb m n) ns → distinct rest ≡ (not again && distinct ns)
first_apart n ns rest again e looked = ap distinct e ∙ rw (none_equals n ns, ← looked) refl

pub returns-then-contains : goal.returns-then-contains
returns-then-contains c =
    let first = c.in-Some in
    sym (c.loop-n.invariant ∙ first_apart first.n.now first.after.now _ _ first.ensures.cases.0 c.if-contains.ensures.value)

pub loop-n-preserved : goal.loop-n-preserved
loop-n-preserved c =
    let first = c.in-Some in
    c.loop-n.invariant ∙ first_apart first.n.now first.after.now _ _ first.ensures.cases.0 c.if-contains.ensures.value
