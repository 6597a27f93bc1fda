-- The record that a turn puts is that of the row.
use Rattle.std.proofs.Common.{◌+◌, ◌*◌, ◌≤◌, ◌∙◌, ap, arith, length, subst}
use Rattle.model.specs.Numbers.{at}
use Rattle.plan_text.specs.Meaning.{B}
use Rattle.canonical_text.specs.CanonicalText.{record_text}
use Rattle.write_record.proofs.Lengths.{list_more}
use Rattle.write_record.proofs.RecordsPut.{one_record, records_more}
use Rattle.write_entries.proofs.put_bounds.Invariants.{own}
use Rattle.write_entries.proofs.put_bounds.Goals as goal

pub loop-i-preserved : goal.loop-i-preserved
loop-i-preserved c =
    let bounds = c.args.bounds.now in
    let l = c.loop-i in
    let row = l.i + 1 in
    let own_text = one_record (B row (at bounds row)) in
    let next =
    subst (λ bs. length bs ≤ 46) (ap (λ x. record_text (B row x)) c.bound_of.ensures ∙ own_text) c.put_record.ensures.upper_bound in
    record {
      put = rw (c.put_record.ensures.value, c.bound_of.ensures, l.invariant.put, own_text) (records_more (own bounds) l.i c.args.out.now);
      short = omega (arith, list_more (46 * l.i) 46 (own bounds) l.i l.invariant.short next);
    }
