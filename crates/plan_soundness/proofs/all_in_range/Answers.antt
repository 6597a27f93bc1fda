use Rattle.std.proofs.Common.{rules, take, true, ◌&&◌, ◌∙◌}
use borrow.Author.Tests.{tests}
use Rattle.std.proofs.lemmas.Iterator.{YieldsList-from_slice}
use Rattle.std.proofs.lemmas.Iterator.Consumers.{fold_from_yields_List}
use Rattle.model.specs.Numbers.{in_range}
use Rattle.plan_soundness.proofs.Folds.{fold_front}
use Rattle.plan_soundness.proofs.all_in_range.Goals as goal

pub returns : goal.returns
returns c =
    let a = c.args in
    fold_from_yields_List _ (λ ok x. ok && in_range x a.high) true c.fold.result c.fold.ensures.ran (YieldsList-from_slice (take a.n a.xs.now) cc)
    (λ ok x b q k. search (rules, tests))
    ∙ fold_front (λ x. in_range x a.high) a.n a.xs.now c.requires
