use Rattle.std.proofs.Common.{ℕ, ◌+◌, ◌-◌, ◌≡◌, ◌≤◌, ◌<◌, Bool, true, false, Some, None, refl, add-one, arith}
use borrow.Author.Tests.{le-leb, lt-leb}
use lib.Dec.{leb}
use Rattle.model.specs.Numbers.{lowest}
use Rattle.model.proofs.Search.{lowest_more, lowest_at}
use Rattle.internals.specs.Internals.{lowest_after}
use Rattle.table_sums.specs.Places.{some_place}
use Rattle.table_sums.proofs.lowest_above.Goals as goal

-- no excess, and some
within : (sum ceiling : ℕ) {excess : ℕ} → excess ≡ sum - ceiling → excess ≤ 0 → leb sum ceiling ≡ true
within sum ceiling e h = le-leb sum ceiling (omega arith)

over : (sum ceiling : ℕ) {excess : ℕ} → excess ≡ sum - ceiling → 0 < excess → leb sum ceiling ≡ false
over sum ceiling e h = lt-leb sum ceiling (omega arith)

-- a place, and none after all
place_found : (place i : ℕ) → place ≡ i + 1 → Some (i + 1) ≡ some_place place
place_found place i e = rw (e, add-one) refl

none_found : (f : ℕ → Bool) (n i : ℕ) → n ≡ i → lowest i f ≡ 0 → None ≡ some_place (lowest n f)
none_found f n i e none = rw (e, none) refl

pub loop-i-init : goal.loop-i-init
unfolding lowest_after
loop-i-init c = refl

pub returns-then-above_ceiling-gt0 : goal.returns-then-above_ceiling-gt0
unfolding lowest_after
returns-then-above_ceiling-gt0 c =
    let l = c.loop-i in
    place_found _ l.i
    (lowest_at _ 32 l.i c.loop-i-test.true l.invariant (over _ _ c.above_ceiling.ensures c.if-above_ceiling-gt0.true))

pub loop-i-preserved : goal.loop-i-preserved
unfolding lowest_after
loop-i-preserved c =
    let l = c.loop-i in
    lowest_more _ l.i l.invariant (within _ _ c.above_ceiling.ensures c.if-above_ceiling-gt0.false)

pub returns : goal.returns
unfolding lowest_after
returns c = none_found _ 32 c.loop-i.i (omega arith) c.loop-i.invariant
