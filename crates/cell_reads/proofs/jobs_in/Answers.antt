use Rattle.std.proofs.Common.{ℕ, List, ◌≡◌, refl, sym, ap, ◌∙◌, take, add-one, arith}
use Rattle.std.proofs.Math.ListN.{length-set}
use Rattle.std.proofs.Math.Seq.{take-suc-set, take_all, take-take, drop-drop}
use Rattle.events.specs.JobList.{list_of}
use Rattle.model.specs.Limits.{max_jobs}
use Rattle.plan_bytes.specs.Over.{entries_in}
use Rattle.plan_bytes.proofs.Laid.{cut_later}
use Rattle.internals.specs.JobNumbers.{job_read, jobs_laid}
use Rattle.cell_layout.specs.Layout.{value_of, job_in, job_size, part_in, jobs_part, list_laid}
use Rattle.cell_layout.proofs.Cells.{is_cell_lem, no_cell_lem}
use Rattle.cell_layout.proofs.EntryBytes.{entries_more, by_pieces}
use Rattle.cell_reads.proofs.jobs_in.Goals as goal

three_numbers : (bs : List ℕ) → job_in (take job_size bs) ≡ job_read (entries_in value_of 4 3 bs)
three_numbers bs =
    let number = ap value_of (take-take 4 12 bs (omega arith)) in
    let kind = ap value_of (cut_later 4 4 12 bs (omega arith)) in
    let stage = ap value_of (cut_later 8 4 12 bs (omega arith) ∙ ap (take 4) (sym (drop-drop 4 4 bs))) in
    λ i. record { number = number i; kind = kind i; stage = stage i }

by_numbers : (bytes : List ℕ) → jobs_laid (entries_in value_of 4 192 bytes) ≡ entries_in job_in job_size max_jobs bytes
by_numbers bytes = by_pieces value_of 4 job_read job_in 3 three_numbers max_jobs bytes

pub returns-then-cell-lt-CELL : goal.returns-then-cell-lt-CELL
unfolding list_of
returns-then-cell-lt-CELL c = rw (no_cell_lem c.args.cell.now (omega arith)) refl

pub loop-i-preserved : goal.loop-i-preserved
loop-i-preserved c =
    let l = c.loop-i in
    let written = take-suc-set l.jobs l.i c.number_at.result (omega arith) in
    let more = entries_more value_of 4 l.i (part_in jobs_part c.args.cell.now) in
    record {
      size = simp length-set l.invariant.size;
      written = rw (add-one, written, l.invariant.written, c.number_at.ensures) (sym more);
    }

pub returns : goal.returns
unfolding list_laid
returns c =
    let l = c.loop-i in
    let bytes = c.args.cell.now in
    let all : l.i ≡ 192 = omega arith in
    let numbers = sym (take_all 192 l.jobs (omega arith)) ∙ rw all at l.invariant.written in
    rw (is_cell_lem bytes (omega arith)) (ap jobs_laid numbers ∙ by_numbers (part_in jobs_part bytes))
