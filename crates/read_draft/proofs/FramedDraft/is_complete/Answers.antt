-- The bytes are those of all stages, so the plan lent is the draft's.
use Rattle.std.proofs.Common.{◌≡◌, length, rules, ℕ, Bool, true, false, ◌&&◌, leb, sym, ap, ◌∙◌}
use Rattle.model.specs.Numbers.{at, all_to}
use Rattle.model.specs.Soundness.{sound}
use Rattle.plan_bytes.specs.Over.{plan_read}
use Rattle.plan_bytes.proofs.Over.{over_whole}
use Rattle.plan_text.specs.Reading.{is_complete}
use Rattle.read_draft.proofs.FramedDraft.is_complete.Goals as goal

pub returns-then-is_sound : goal.returns-then-is_sound
unfolding is_complete plan_read
returns-then-is_sound c =
    let d = c.args.self.now in
    let whole : length d.stages ≡ 8192 = search rules in
    let same : sound (plan_read d.frame d.stages) ≡ true = ap sound (sym (over_whole d.frame d.stages whole)) ∙ sym c.is_sound.ensures ∙ c.if-is_sound.true in
    c.all_bounded.ensures ∙ ap (λ (b : Bool). b && all_to d.frame.rows (λ (w : ℕ). leb 1 (at d.bounded w))) (sym same)

pub returns-else-is_sound : goal.returns-else-is_sound
unfolding is_complete plan_read
returns-else-is_sound c =
    let d = c.args.self.now in
    let whole : length d.stages ≡ 8192 = search rules in
    let same : sound (plan_read d.frame d.stages) ≡ false = ap sound (sym (over_whole d.frame d.stages whole)) ∙ sym c.is_sound.ensures ∙ c.if-is_sound.false in
    c.if-is_sound.false ∙ ap (λ (b : Bool). b && all_to d.frame.rows (λ (w : ℕ). leb 1 (at d.bounded w))) (sym same)
