-- The record that a turn puts is that of the entry.
use Rattle.std.proofs.Common.{◌+◌, ◌*◌, ◌≤◌, arith, length, subst}
use Rattle.canonical_text.specs.CanonicalText.{text_of, valued}
use Rattle.canonical_text.specs.WriterInternals.{entry_of}
use Rattle.write_record.proofs.Lengths.{list_more}
use Rattle.write_record.proofs.RecordsPut.{records_more}
use Rattle.write_entries.proofs.put_entries.Invariants.{own}
use Rattle.write_entries.proofs.put_entries.Goals as goal

pub loop-i-preserved : goal.loop-i-preserved
loop-i-preserved c =
    let a = c.args in
    let l = c.loop-i in
    let f = own a.like a.xs.now in
    let next =
    subst (λ v. length (text_of (valued v (entry_of a.like (l.i + 1)))) ≤ 46) c.entry_of.ensures c.put_valued.ensures.upper_bound in
    record {
      put = rw (c.put_valued.ensures.value, c.entry_of.ensures, l.invariant.put) (records_more f l.i a.out.now);
      short = omega (arith, list_more (46 * l.i) 46 f l.i l.invariant.short next);
    }
