-- A bound of 16 bits is in range; beyond the rows are zeros.
use Rattle.std.proofs.Common.{arith, rules, drop, true, ◌&&◌, ◌∙◌, eqb}
use borrow.Author.Tests.{tests}
use Rattle.std.proofs.lemmas.Iterator.{YieldsList-from_slice}
use Rattle.std.proofs.lemmas.Iterator.Consumers.{fold_from_yields_List}
use Rattle.model.specs.Limits.{max_bound}
use Rattle.model.specs.Soundness.{sound_bounds}
use Rattle.model.proofs.Search.{all_small}
use Rattle.plan_soundness.proofs.Folds.{rest, fold_each}
use Rattle.plan_soundness.proofs.sound_bounds.Goals as goal

pub returns : goal.returns
unfolding sound_bounds
returns c =
    let n = c.args.n in
    let bound = c.args.bound.now in
    rw (all_small bound max_bound n (λ i. omega (arith, c.type_inv.bound i))) (
    fold_from_yields_List _ (λ ok x. ok && eqb x 0) true c.fold.result c.fold.ensures.ran (YieldsList-from_slice (drop n bound) (cc (rest n bound)))
    (λ ok x b q k. search (rules, tests))
    ∙ fold_each (λ x. eqb x 0) true (drop n bound))
