-- The stage is lent where it lies; beyond the stages there is none.
use Rattle.plan_bytes.specs.Over.{plan_read}
use Rattle.read_draft.proofs.Stages.{lent_here, none_here}
use Rattle.read_draft.proofs.FramedDraft.stage_at.Goals as goal

pub returns-then-index-lt128 : goal.returns-then-index-lt128
unfolding plan_read
returns-then-index-lt128 c = let d = c.args.self.now in lent_here d.frame d.stages c.args.index c.if-index-lt128.true

pub returns-else-index-lt128 : goal.returns-else-index-lt128
unfolding plan_read
returns-else-index-lt128 c = let d = c.args.self.now in none_here d.frame d.stages c.args.index c.if-index-lt128.false
