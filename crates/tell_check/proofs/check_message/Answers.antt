-- The three numbers are those of the check's answer; 0 is that of a plan that meets the rule.
use Rattle.std.proofs.Common.{ℕ, ◌≡◌, cond, List, [], refl, ap, ◌∙◌, eqb, length, arith}
use borrow.Author.Tests.{ne_eqb}
use Rattle.model.specs.Upstream.{check_numbers}
use Rattle.model.specs.declared.Check.{Check}
use Rattle.moves_text.proofs.Overlays.{put_as}
use Rattle.told_text.specs.PlanMessage.{check_message_with}
use Rattle.told_text.proofs.Short.{check_message_short}
use Rattle.write_lines.proofs.Sinks.{new_whole, same_lent}
use Rattle.tell_check.proofs.check_message.Goals as goal

-- what is told by the three numbers
abbrev told_of : ℕ × ℕ × ℕ → List ℕ
told_of n = cond (eqb n.0 0) [] (check_message_with n.0 n.1 n.2)

pub returns : goal.returns
returns c =
    let a = c.args in
    let n = check_numbers c.upstream_check-check.result in
    let unmet = ne_eqb n.0 0 (λ e. c.if-number-eq0.false (c.check_number-number.ensures ∙ e)) in
    let some : check_message_with n.0 n.1 n.2 ≡ told_of n = rw unmet refl in
    let told =
    (λ i. check_message_with (c.check_number-number.ensures i) (c.check_first.ensures i) (c.check_second.ensures i))
    ∙ some
    ∙ ap (λ (x : Check). told_of (check_numbers x)) c.upstream_check-check.ensures in
    let said = check_message_with c.check_number-number.result c.check_first.result c.check_second.result in
    let few = check_message_short c.check_number-number.result c.check_first.result c.check_second.result (omega arith) (omega arith) in
    let put = new_whole said _ _ refl c.put_check_message.ensures (omega (arith, few)) in
    let lent = same_lent _ _ _ c.put_check_message.ensures in
    put_as 0 a.buffer.now told (put.0, grind arith)
