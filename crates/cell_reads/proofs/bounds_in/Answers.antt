use Rattle.std.proofs.Common.{◌≡◌, sym, ◌∙◌, add-one, arith}
use Rattle.std.proofs.Math.ListN.{length-set}
use Rattle.std.proofs.Math.Seq.{take-suc-set, take_all}
use Rattle.cell_layout.specs.Layout.{value_of}
use Rattle.cell_layout.proofs.EntryBytes.{entries_more}
use Rattle.cell_reads.proofs.bounds_in.Goals as goal

pub loop-i-preserved : goal.loop-i-preserved
loop-i-preserved c =
    let l = c.loop-i in
    let written = take-suc-set l.bounds l.i c.bound_at.result (omega arith) in
    let more = entries_more value_of 2 l.i c.args.part.now in
    record {
      size = simp length-set l.invariant.size;
      written = rw (add-one, written, l.invariant.written, c.bound_at.ensures) (sym more);
    }

pub returns : goal.returns
returns c =
    let l = c.loop-i in
    let all : l.i ≡ 32 = omega arith in
    sym (take_all 32 l.bounds (omega arith)) ∙ rw all at l.invariant.written
