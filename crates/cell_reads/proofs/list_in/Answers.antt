use Rattle.std.proofs.Common.{◌≡◌, sym, ◌∙◌, add-one, arith}
use Rattle.std.proofs.Math.ListN.{length-set}
use Rattle.std.proofs.Math.Seq.{take-suc-set, take_all}
use Rattle.cell_layout.specs.Layout.{job_in, job_size, part_in, jobs_part, list_laid}
use Rattle.cell_layout.proofs.Cells.{is_cell_lem}
use Rattle.cell_layout.proofs.EntryBytes.{entries_more}
use Rattle.cell_reads.proofs.list_in.Goals as goal

pub loop-i-preserved : goal.loop-i-preserved
loop-i-preserved c =
    let l = c.loop-i in
    let written = take-suc-set l.list.jobs l.i c.job_from.result (omega arith) in
    let more = entries_more job_in job_size l.i (part_in jobs_part c.args.cell.now) in
    record {
      slots = simp length-set l.invariant.slots;
      written = rw (add-one, written, l.invariant.written, c.job_from.ensures) (sym more);
      count = l.invariant.count;
    }

pub returns : goal.returns
unfolding list_laid
returns c =
    let l = c.loop-i in
    let all : l.i ≡ 64 = omega arith in
    let jobs = sym (take_all 64 l.list.jobs (omega arith)) ∙ rw all at l.invariant.written in
    let whole = is_cell_lem c.args.cell.now (omega arith) in
    let count = rw whole at l.invariant.count in
    rw whole (λ i. record { count = count i; jobs = jobs i })
