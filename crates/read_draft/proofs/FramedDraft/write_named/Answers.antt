-- The stage named is written where it lies; beyond the stages nothing is.
use Rattle.std.proofs.Common.{◌≡◌, ℕ, List, length, rules, ap, ◌∙◌}
use lib.ListN.{get_or, set}
use Rattle.model.specs.Plan.{no_stage}
use Rattle.model.specs.declared.Stage.{Stage}
use Rattle.plan_bytes.specs.Over.{plan_read}
use Rattle.plan_text.specs.Draft.{Draft, stage_after_record}
use Rattle.plan_text.specs.ReaderInternals.{narrowed}
use Rattle.read_draft.specs.Drafted.{drafted}
use Rattle.read_draft.proofs.Stages.{put_here, none_put}
use Rattle.read_draft.proofs.FramedDraft.write_named.Goals as goal

pub returns-then-index-lt128 : goal.returns-then-index-lt128
unfolding plan_read
returns-then-index-lt128 c =
    let d = c.args.self.now in
    let r = narrowed c.args.rec in
    let whole : length d.stages ≡ 8192 = search rules in
    let old : Draft = drafted d in
    let stages = old.plan.stages in
    ap (λ (ss : List Stage). record old { plan = record old.plan { stages = ss } })
    (put_here d.frame d.stages c.args.index c.if-index-lt128.true whole c.write_stage.new.stage r c.write_stage.ensures
    ∙ ap (λ (i : ℕ). set stages i (stage_after_record (get_or stages i no_stage) r)) c.requires)

pub returns-else-index-lt128 : goal.returns-else-index-lt128
unfolding plan_read
returns-else-index-lt128 c =
    let d = c.args.self.now in
    let r = narrowed c.args.rec in
    let old : Draft = drafted d in
    let stages = old.plan.stages in
    let i = c.args.index in
    ap (λ (ss : List Stage). record old { plan = record old.plan { stages = ss } })
    (none_put d.frame d.stages i (stage_after_record (get_or stages i no_stage) r) c.if-index-lt128.false
    ∙ ap (λ (i : ℕ). set stages i (stage_after_record (get_or stages i no_stage) r)) c.requires)
