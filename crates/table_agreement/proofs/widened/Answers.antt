use Rattle.std.proofs.Common.{◌≡◌, get_or, length, sym, ◌∙◌, arith, rules}
use Rattle.std.proofs.lemmas.List.{ext_get_or}
use Rattle.internals.proofs.FromFn.{made_by}
use Rattle.table_agreement.proofs.widened.Goals as goal

pub returns : goal.returns
returns c =
    let xs = c.args.xs in
    let made = c.from_fn.ensures.items in
    let long : length xs ≡ 32 = omega arith in
    ext_get_or 0 c.from_fn.result xs (made.long ∙ sym long)
    (λ k h. made_by _ _ (λ i. get_or xs i 0) (λ i y q called. search rules) _ 32 made k (omega (arith, made.long)) 0)
