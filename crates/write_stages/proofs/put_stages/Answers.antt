use Rattle.std.proofs.Common.{arith, ◌+◌, ◌*◌, ◌≡◌, ◌≤◌, sym, ap, ◌∙◌, length, subst}
use Rattle.model.specs.Numbers.{at}
use Rattle.plan_bytes.specs.Over.{plan_read, plan_over}
use Rattle.canonical_text.specs.CanonicalText.{list_to, text_of}
use Rattle.write_lines.specs.Sink.{with_text}
use Rattle.write_lines.proofs.Sinks.{nothing_put}
use Rattle.write_record.proofs.Lengths.{list_more}
use Rattle.write_record.proofs.RecordsPut.{records_more}
use Rattle.write_stages.specs.StageRecords.{type_records, records_from}
use Rattle.write_stages.proofs.StageRecords.{first_next, stages_none, type_told}
use Rattle.write_stages.proofs.put_stages.Goals as goal

pub returns-then-plan-ne8192-clause-value : goal.returns-then-plan-ne8192-clause-value
returns-then-plan-ne8192-clause-value c =
    let a = c.args in
    rw (stages_none a.plan.frame.now a.plan.stages.now a.row c.if-plan-ne8192.true) (sym (nothing_put a.out.now))

pub returns-then-plan-ne8192-clause-upper_bound : goal.returns-then-plan-ne8192-clause-upper_bound
returns-then-plan-ne8192-clause-upper_bound c =
    let a = c.args in
    rw (stages_none a.plan.frame.now a.plan.stages.now a.row c.if-plan-ne8192.true) (omega arith)

pub loop-t-preserved : goal.loop-t-preserved
loop-t-preserved c =
    let a = c.args in
    let l = c.loop-t in
    let told =
    type_told a.plan.frame.now a.plan.stages.now a.row l.t l.first c.length_of-count.result c.if-plan-ne8192.false c.loop-t-test.true l.invariant.begins
    (c.length_of-count.ensures ∙ ap (λ t. at a.plan.frame.now.lengths (t + 1)) c.from-kind.ensures) in
    let f = type_records (plan_over a.plan.frame.now a.plan.stages.now) a.row in
    let next =
    subst (λ rs. length (text_of rs) ≤ 50379966370350)
    (ap (λ kind. records_from a.plan.stages.now a.plan.frame.now.resources a.row (kind + 1) l.first c.length_of-count.result) c.from-kind.ensures ∙ told)
    c.put_type.ensures.upper_bound in
    record {
      put = rw (c.put_type.ensures.value, l.invariant.put, c.from-kind.ensures, told) (records_more f l.t a.out.now);
      short = omega (arith, list_more (50379966370350 * l.t) 50379966370350 f l.t l.invariant.short next);
      begins = first_next (at a.plan.frame.now.lengths) l.t l.invariant.begins (c.length_of-count.ensures ∙ ap (λ t. at a.plan.frame.now.lengths (t + 1)) c.from-kind.ensures);
      few = omega arith;
    }

pub returns-clause-value : goal.returns-clause-value
unfolding plan_over plan_read
returns-clause-value c =
    let a = c.args in
    let all : c.loop-t.t ≡ a.plan.frame.now.types = omega arith in
    c.loop-t.invariant.put ∙ ap (λ n. with_text (text_of (list_to n (type_records (plan_over a.plan.frame.now a.plan.stages.now) a.row))) a.out.now) all

pub returns-clause-upper_bound : goal.returns-clause-upper_bound
unfolding plan_over plan_read
returns-clause-upper_bound c =
    let a = c.args in
    let all : c.loop-t.t ≡ a.plan.frame.now.types = omega arith in
    let p = plan_over a.plan.frame.now a.plan.stages.now in
    subst (λ n. length (text_of (list_to n (type_records p a.row))) ≤ 12846891424439250) all (omega (arith, c.loop-t.invariant.short))
