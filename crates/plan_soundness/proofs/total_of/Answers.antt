use Rattle.std.proofs.Common.{rules, arith, take, ◌∙◌}
use borrow.Author.Tests.{tests}
use Rattle.std.proofs.lemmas.Iterator.{YieldsList-from_slice, YieldsList-from_map}
use Rattle.std.proofs.lemmas.Iterator.Adapters.{fits_from_length, at_most_from_yields_List}
use Rattle.std.proofs.lemmas.Iterator.Consumers.{sum_by_from_yields_List}
use Rattle.plan_soundness.proofs.Folds.{sum_front}
use Rattle.plan_soundness.proofs.total_of.Goals as goal

pub sum-requires-clause-fits : goal.sum-requires-clause-fits
sum-requires-clause-fits c =
    fits_from_length _ _ 16 _ (at_most_from_yields_List (YieldsList-from_slice (take c.args.n c.args.lengths.now) cc) (grind arith)) c.map.ensures.closure (omega arith)
    (λ x r q k. search (rules, tests))

pub returns : goal.returns
returns c =
    let some = take c.args.n c.args.lengths.now in
    sum_by_from_yields_List (λ x. x) some c.map.result c.sum.result c.sum.ensures.ran
    (YieldsList-from_map _ (λ x. x) (YieldsList-from_slice some cc) c.map.ensures.closure (λ x r q k. search rules))
    ∙ sum_front c.args.n c.args.lengths.now (omega arith)
