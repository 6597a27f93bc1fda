-- The fields passed are in their ranges, so what is left to test is the fields from i on.
use Rattle.std.proofs.Common.{length, sym, ap, ◌∙◌, arith}
use lib.ListN.{length-map}
use Rattle.plan_text.specs.Records.{numbers_of}
use Rattle.plan_text.specs.RecordTests.{in_ranges, fits_fields}
use Rattle.plan_text.proofs.LineForm.{few_fields}
use Rattle.read_ranges.specs.Table.{field_said, known_in}
use Rattle.read_ranges.proofs.InRanges.{under, over, passed}
use Rattle.read_ranges.proofs.in_ranges.Goals as goal
use Rattle.read_ranges.proofs.in_ranges.Goals.{then-x-lowest-via-then-x-lowest, then-x-lowest-via-else-x-lowest+then-highest-x}

pub loop-i-init : goal.loop-i-init
unfolding in_ranges
loop-i-init c =
    let r = c.args.rec in
    record {
      few = omega (arith, length-map c.layout-fields.result.now field_said, ap length c.layout-fields.ensures, few_fields r.section);
      same = ap (λ fs. fits_fields (known_in c.args.frame.now) 0 fs (numbers_of r)) (sym c.layout-fields.ensures);
    }

pub returns-then-x-lowest : goal.returns-then-x-lowest
returns-then-x-lowest c =
    let l = c.loop-i in
    let k = known_in c.args.frame.now in
    let fs = c.layout-fields.result.now in
    let xs = numbers_of c.args.rec in
    elim c.then-x-lowest.branch [
      | then-x-lowest-via-then-x-lowest w ↦
          sym (l.invariant.same ∙ under k l.before l.i fs xs (omega arith) (omega arith) (omega (arith, w.if-x-lowest.true, c.lowest.ensures)))
      | then-x-lowest-via-else-x-lowest+then-highest-x w ↦
          sym (l.invariant.same ∙ over k l.before l.i fs xs (omega arith) (omega arith) (omega (arith, w.if-highest-x.true, w.highest.ensures)))
    ]

pub loop-i-preserved : goal.loop-i-preserved
loop-i-preserved c =
    let l = c.loop-i in
    record {
      few = l.invariant.few;
      same =
          l.invariant.same
          ∙ passed (known_in c.args.frame.now) l.before l.i c.layout-fields.result.now (numbers_of c.args.rec) (omega arith) (omega arith)
          (omega (arith, c.if-x-lowest.false, c.lowest.ensures)) (omega (arith, c.if-highest-x.false, c.highest.ensures));
    }
