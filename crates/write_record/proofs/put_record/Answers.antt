-- At the end the line is the record's text.
use Rattle.std.proofs.Common.{ap, ◌∙◌, take, rules, arith}
use Rattle.plan_text.specs.Records.{numbers_of}
use Rattle.canonical_text.specs.CanonicalText.{letter_of}
use Rattle.write_lines.specs.Sink.{with_text}
use Rattle.write_record.proofs.Fields.{grows, line_made}
use Rattle.write_record.proofs.Lengths.{record_short}
use Rattle.write_record.proofs.put_record.Goals as goal

pub loop-number-preserved : goal.loop-number-preserved
loop-number-preserved c =
    let l = c.loop-number in
    let put = c.put_digits-to in
    grows (letter_of c.args.rec) (take c.field_count.result (numbers_of c.args.rec)) l.line put.new.line l.to l.number-index put.result l.invariant c.loop-number-test.true
    put.ensures.value put.ensures.upper_bound (search rules)

pub returns-clause-value : goal.returns-clause-value
returns-clause-value c =
    let l = c.loop-number in
    c.put.ensures
    ∙ ap (λ bs. with_text bs c.args.out.now)
    (line_made c.args.rec c.field_count.result l.line l.to l.number-index c.field_count.ensures l.invariant l.auto.number-index-end c.loop-number-test.false)

pub returns-clause-upper_bound : goal.returns-clause-upper_bound
returns-clause-upper_bound c = record_short c.args.rec (omega arith, (omega arith, (omega arith, (omega arith, tt))))
