-- The plan is what its frame and its bytes say.
use Rattle.std.proofs.Common.{◌≡◌, ◌+◌, length, rules, ap, ◌∙◌, cond, Bool}
use Rattle.plan_bytes.specs.Over.{plan_read}
use Rattle.plan_bytes.proofs.Over.{over_whole}
use Rattle.plan_text.specs.Reading.{accepted, refused}
use Rattle.plan_text.specs.declared.TextAnswer.TheVariants.{Incomplete}
use Rattle.read_plan.proofs.finished.Goals as goal

pub returns : goal.returns
returns c =
    let d = c.args.draft.now in
    let whole : length d.stages ≡ 8192 = search rules in
    ap accepted (over_whole d.frame d.stages whole)
    ∙ ap (λ (b : Bool). cond b (accepted (plan_read d.frame d.stages)) (refused Incomplete (c.args.line + 1) 0 0)) c.if-not-is_complete.ensures
