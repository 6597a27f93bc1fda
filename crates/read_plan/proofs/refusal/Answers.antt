-- A refusal hands back the empty plan: its frame, and bytes of 0.
use Rattle.std.proofs.Common.{ap, ◌∙◌}
use lib.ListN.{replicate}
use Rattle.model.specs.declared.Plan.{Plan}
use Rattle.plan_bytes.specs.Over.{plan_over, stages_size}
use Rattle.plan_bytes.specs.declared.Frame.{Frame}
use Rattle.plan_bytes.proofs.Over.{empty_over}
use Rattle.read_plan.proofs.refusal.Goals as goal

pub returns : goal.returns
returns c =
    let a = c.args in
    ap (λ (p : Plan). record { answer = a.answer; line = a.line; from = a.from; to = a.to; plan = p })
    (ap (λ (f : Frame). plan_over f (replicate stages_size 0)) c.empty_frame.ensures ∙ empty_over)
