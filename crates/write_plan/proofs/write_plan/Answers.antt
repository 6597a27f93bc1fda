-- Refused where the plan is not sound or the measured text has no room; where it has room, what is put is what is written.
use Rattle.std.proofs.Common.{arith, refl, ap, sym, ◌≡◌, ◌∙◌, ◌≤◌, ℕ, length}
use Rattle.plan_bytes.specs.Over.{plan_of, plan_over}
use Rattle.moves_text.proofs.Overlays.{overlaid_whole}
use Rattle.canonical_text.specs.CanonicalText.{canonical_text}
use Rattle.canonical_text.specs.declared.WriteAnswer.TheVariants.{Written}
use Rattle.canonical_text.proofs.WriteAnswers.{unsound_refused, long_refused, all_written, room_short, room_long, has_room_lem}
use Rattle.write_lines.proofs.Sinks.{new_whole, same_lent}
use Rattle.write_plan.proofs.write_plan.Goals as goal

pub returns-then-not-is_sound : goal.returns-then-not-is_sound
returns-then-not-is_sound c =
    let a = c.args in
    let w = unsound_refused (plan_over a.plan.frame.now a.plan.stages.now) a.buffer.now (sym c.if-not-is_sound.ensures) in
    (c.refused.ensures ∙ w.0, w.1)

pub returns-then-buffer-size : goal.returns-then-buffer-size
returns-then-buffer-size c =
    let a = c.args in
    let p = plan_over a.plan.frame.now a.plan.stages.now in
    let none = room_short (length (canonical_text p)) (length a.buffer.now) (omega (arith, c.canonical_length-size.ensures, c.if-buffer-size.true)) in
    let w = long_refused p a.buffer.now (sym c.if-not-is_sound.ensures) none in
    (c.refused-then-buffer-size.ensures ∙ w.0, w.1)

pub returns-then-size-gt65536 : goal.returns-then-size-gt65536
returns-then-size-gt65536 c =
    let a = c.args in
    let p = plan_over a.plan.frame.now a.plan.stages.now in
    let size = c.canonical_length-size.ensures in
    let none = room_long (length (canonical_text p)) (length a.buffer.now) (omega (arith, size, c.if-buffer-size.false)) (omega (arith, size, c.if-size-gt65536.true)) in
    let w = long_refused p a.buffer.now (sym c.if-not-is_sound.ensures) none in
    (c.refused-then-size-gt65536.ensures ∙ w.0, w.1)

pub returns : goal.returns
returns c =
    let a = c.args in
    let text = canonical_text (plan_of a.plan) in
    let size : length text ≡ c.canonical_length-size.result = omega (arith, c.canonical_length-size.ensures) in
    let put = new_whole text _ _ refl c.put_canonical.ensures (omega (arith, size)) in
    let lent = same_lent text _ _ c.put_canonical.ensures in
    let fits : length text ≤ length a.buffer.now = omega (arith, size, c.if-buffer-size.false) in
    let some = has_room_lem (length text) (length a.buffer.now) fits (omega (arith, size, c.if-size-gt65536.false)) in
    let w = all_written (plan_of a.plan) a.buffer.now (sym c.if-not-is_sound.ensures) some in
    let whole = put.1 ∙ overlaid_whole text a.buffer.now fits ∙ w.1 in
    (ap (λ (n : ℕ). record { answer = Written; length = n }) (sym size) ∙ w.0, grind arith)
