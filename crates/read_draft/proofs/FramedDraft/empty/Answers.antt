-- Bytes of 0 are the stages of the empty plan.
use Rattle.std.proofs.Common.{ℕ, sym, ap, ◌∙◌}
use lib.ListN.{replicate, length-replicate}
use Rattle.model.specs.declared.Plan.{Plan}
use Rattle.plan_bytes.specs.Over.{stages_size, plan_read, empty_frame}
use Rattle.plan_bytes.specs.declared.Frame.{Frame}
use Rattle.plan_bytes.proofs.Over.{over_whole, empty_over}
use Rattle.plan_text.specs.Draft.{Draft, empty_draft}
use Rattle.read_draft.proofs.FramedDraft.empty.Goals as goal

pub returns : goal.returns
unfolding empty_draft
returns c =
    let zeros = replicate {A = ℕ} stages_size 0 in
    let with_plan : Plan → Draft = λ p. record { plan = p; bounded = replicate 32 0; section = 0 } in
    ap (λ (f : Frame). with_plan (plan_read f zeros)) c.empty_frame.ensures
    ∙ ap with_plan (sym (over_whole empty_frame zeros (length-replicate {A = ℕ} stages_size 0)) ∙ empty_over)
