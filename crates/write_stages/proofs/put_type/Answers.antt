-- The records that a turn puts are those of the stage.
use Rattle.std.proofs.Common.{arith, ◌+◌, ◌-◌, ◌*◌, ◌≡◌, ◌≤◌, length, subst}
use Rattle.canonical_text.specs.CanonicalText.{text_of}
use Rattle.write_record.proofs.Lengths.{list_more}
use Rattle.write_record.proofs.RecordsPut.{records_more}
use Rattle.write_stages.specs.StageRecords.{stage_read, stage_records}
use Rattle.write_stages.proofs.put_type.Invariants.{own}
use Rattle.write_stages.proofs.put_type.Goals as goal

pub loop-k-preserved : goal.loop-k-preserved
loop-k-preserved c =
    let a = c.args in
    let k = c.loop-k.k in
    let f = own a.plan.stages.now a.plan.frame.now.resources a.row a.kind a.first in
    let e : a.first + k ≡ a.first + (k + 1 - 1) = omega arith in
    let next =
    subst (λ i. length (text_of (stage_records a.plan.frame.now.resources a.row a.kind (k + 1) (stage_read a.plan.stages.now i))) ≤ 11730) e
    c.put_stage.ensures.upper_bound in
    record {
      put = rw (c.put_stage.ensures.value, c.loop-k.invariant.put, e) (records_more f k a.out.now);
      short = omega (arith, list_more (11730 * k) 11730 f k c.loop-k.invariant.short next);
    }
