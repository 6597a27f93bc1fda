-- Each return has the first question that the record does not meet.
use Rattle.std.proofs.Common.{refl, sym, ◌∙◌}
use borrow.Author.Tests.{eq-eqb, ne_eqb}
use Rattle.plan_bytes.specs.Over.{plan_read}
use Rattle.read_draft.proofs.FramedDraft.answer_at.Goals as goal

pub returns-then-not-ranged : goal.returns-then-not-ranged
unfolding plan_read
returns-then-not-ranged c = rw (sym c.if-not-ranged.ensures) refl

pub returns-then-not-first : goal.returns-then-not-first
unfolding plan_read
returns-then-not-first c =
    rw (sym c.if-not-ranged.ensures, ne_eqb _ 0 (λ e. c.if-not-first.true (c.held_at-first.ensures ∙ e))) refl

pub returns-then-not-within : goal.returns-then-not-within
unfolding plan_read
returns-then-not-within c =
    rw (sym c.if-not-ranged.ensures, eq-eqb _ 0 (sym c.held_at-first.ensures ∙ c.if-not-first.false), sym c.if-not-within.ensures) refl

pub returns : goal.returns
unfolding plan_read
returns c =
    rw (sym c.if-not-ranged.ensures, eq-eqb _ 0 (sym c.held_at-first.ensures ∙ c.if-not-first.false), sym c.if-not-within.ensures) refl
