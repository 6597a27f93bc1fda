-- The records that a turn puts are those of the row.
use Rattle.std.proofs.Common.{◌+◌, ◌*◌, ◌≡◌, ◌≤◌, Some, ap, ◌∙◌, arith, length, subst}
use Rattle.plan_bytes.specs.Over.{plan_read, plan_over}
use Rattle.canonical_text.specs.CanonicalText.{list_to, text_of}
use Rattle.write_lines.specs.Sink.{with_text}
use Rattle.write_record.proofs.Lengths.{list_more}
use Rattle.write_record.proofs.RecordsPut.{records_more}
use Rattle.write_stages.specs.StageRecords.{plan_stages}
use Rattle.write_stages.proofs.StageRecords.{weights_told}
use Rattle.write_stages.proofs.put_weights.Invariants.{row_of}
use Rattle.write_stages.proofs.put_weights.Goals as goal

pub loop-w-preserved : goal.loop-w-preserved
loop-w-preserved c =
    let p = plan_over c.args.plan.frame.now c.args.plan.stages.now in
    let w = c.loop-w.w in
    let told = weights_told p (w + 1) in
    let next =
    subst (λ rs. length (text_of rs) ≤ 12846891424439250) (ap (λ row. plan_stages p (Some (row + 1))) c.from-row.ensures ∙ told) c.put_stages.ensures.upper_bound in
    record {
      put = rw (c.put_stages.ensures.value, c.loop-w.invariant.put, c.from-row.ensures, told) (records_more (row_of p) w c.args.out.now);
      short = omega (arith, list_more (12846891424439250 * w) 12846891424439250 (row_of p) w c.loop-w.invariant.short next);
    }

pub returns-clause-value : goal.returns-clause-value
unfolding plan_over plan_read
returns-clause-value c =
    let a = c.args in
    let all : c.loop-w.w ≡ a.plan.frame.now.rows = omega arith in
    c.loop-w.invariant.put ∙ ap (λ n. with_text (text_of (list_to n (row_of (plan_over a.plan.frame.now a.plan.stages.now)))) a.out.now) all

pub returns-clause-upper_bound : goal.returns-clause-upper_bound
unfolding plan_over plan_read
returns-clause-upper_bound c =
    let a = c.args in
    let all : c.loop-w.w ≡ a.plan.frame.now.rows = omega arith in
    let p = plan_over a.plan.frame.now a.plan.stages.now in
    subst (λ n. length (text_of (list_to n (row_of p))) ≤ 3275957313232008750) all (omega (arith, c.loop-w.invariant.short))
