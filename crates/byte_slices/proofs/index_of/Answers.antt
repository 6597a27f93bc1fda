use Rattle.std.proofs.Common.{arith, rules, refl, sym, ◌≡◌, ◌∙◌}
use borrow.Author.Tests.{tests, eq-eqb, ne_eqb}
use mathlib.Core.Logic.{◌≢◌}
use Rattle.std.proofs.lemmas.Iterator.{YieldsList-from_slice, IsFirst-from_position, index_from_first}
use Rattle.byte_slices.specs.Bytes.{index_of, index_after}
use Rattle.byte_slices.proofs.index_of.Goals as goal

pub returns-clause-first : goal.returns-clause-first
unfolding index_of index_after
returns-clause-first c =
    let b = c.args.byte in
    c.unwrap_or.ensures
    ∙ sym (
    index_from_first (index_of b) (λ x. x ≡ b) (λ x. x ≢ b) refl (λ x xs e. rw (eq-eqb x b e) refl) (λ x xs ne. rw (ne_eqb x b ne) (omega arith))
    c.args.bytes.now c.position.result
    (IsFirst-from_position _ _ c.position.result (λ x. x ≡ b) (λ x. x ≢ b) c.position.ensures.ran (YieldsList-from_slice c.args.bytes.now cc)
    (λ x q k. search (rules, tests)) (λ x q k. search (rules, tests))))
