use Rattle.std.proofs.Common.{arith, ℕ, ◌+◌, ◌-◌, ◌<◌, ◌≤◌, ◌≡◌, suc, List, length, get_or, add-one}
use lib.ListN.{length-set}
use Rattle.model.specs.Numbers.{at, sum_to}
use Rattle.model.proofs.Flat.{sum_up_to}
use Rattle.plan_upstream.specs.CheckInternals.{Types}
use Rattle.plan_upstream.proofs.TypeEnds.{close_more}
use Rattle.plan_upstream.proofs.ranks.closed.Goals as goal

-- where the stages of the next type are counted
module _ {lengths : List ℕ} {types : ℕ} (given : Types lengths types) (kind index size : ℕ) (more : kind < types) (same : index ≡ sum_to kind (at lengths))
    (counted : size ≡ get_or lengths kind 0) where
  grown : index + size ≡ sum_to (suc kind) (at lengths)
  grown = omega (arith, same, counted)

  some : 1 ≤ at lengths (suc kind)
  some = given.some (suc kind) (omega arith, omega arith)

  within : index + size ≤ 128
  within = omega (arith, grown, given.total, sum_up_to (at lengths) types (suc kind) (omega arith))

  last : suc (index + size - 1) ≡ sum_to (suc kind) (at lengths)
  last = omega (arith, grown, some)

pub overflow_add-index : goal.overflow_add-index
overflow_add-index c =
    let l = c.loop-kind in
    omega (arith, within c.requires l.kind l.index _ c.loop-kind-test.true l.invariant.same c.from-index.ensures)

pub overflow_sub-ranks : goal.overflow_sub-ranks
overflow_sub-ranks c =
    let l = c.loop-kind in
    let e = c.from-index.ensures in
    let t = c.loop-kind-test.true in
    omega (arith, grown c.requires l.kind l.index _ t l.invariant.same e, some c.requires l.kind l.index _ t l.invariant.same e)

pub offset_bounds-ranks-index : goal.offset_bounds-ranks-index
offset_bounds-ranks-index c =
    let l = c.loop-kind in
    omega (arith, within c.requires l.kind l.index _ c.loop-kind-test.true l.invariant.same c.from-index.ensures)

pub bounds-ranks-index : goal.bounds-ranks-index
bounds-ranks-index c =
    let l = c.loop-kind in
    let e = c.from-index.ensures in
    let t = c.loop-kind-test.true in
    omega (
      arith,
      within c.requires l.kind l.index _ t l.invariant.same e,
      last c.requires l.kind l.index _ t l.invariant.same e,
      grown c.requires l.kind l.index _ t l.invariant.same e,
    )

pub loop-kind-preserved : goal.loop-kind-preserved
loop-kind-preserved c =
    let l = c.loop-kind in
    let e = c.from-index.ensures in
    let t = c.loop-kind-test.true in
    let small = within c.requires l.kind l.index _ t l.invariant.same e in
    let end = last c.requires l.kind l.index _ t l.invariant.same e in
    let sum = grown c.requires l.kind l.index _ t l.invariant.same e in
    let here = some c.requires l.kind l.index _ t l.invariant.same e in
    let room : l.index + c.from-index.result - 1 < length l.ranks = omega (arith, small, end, sum) in
    record {
      same = rw add-one sum;
      full = simp length-set l.invariant.full;
      passed = close_more _ _ _ l.kind _ end l.ranks room here l.invariant.passed;
    }
