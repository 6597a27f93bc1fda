use Rattle.std.proofs.Common.{get_or, sym, ◌∙◌, rules, arith}
use Rattle.std.proofs.lemmas.List.{ext_get_or}
use Rattle.internals.proofs.FromFn.{made_by}
use Rattle.cell_reads.proofs.entries.bytes.Goals as goal

pub returns : goal.returns
returns g c =
    let xs = c.args.part.now in
    let made = c.from_fn.ensures.items in
    ext_get_or 0 c.from_fn.result xs (made.long ∙ sym c.requires)
    (λ k h. made_by _ _ (λ i. get_or xs i 0) (λ i y q called. search rules) _ _ made k (omega (arith, made.long)) 0)
