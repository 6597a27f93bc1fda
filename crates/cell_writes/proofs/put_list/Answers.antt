use Rattle.std.proofs.Common.{ℕ, List, ◌*◌, ◌%◌, ◌≡◌, length, refl, ap, ◌∙◌, add-one, arith}
use Rattle.std.proofs.Math.ListN.{set, length-set}
use Rattle.model.specs.Jobs.{no_job}
use Rattle.events.specs.declared.JobList.{JobList}
use Rattle.cell_layout.specs.Layout.{bytes_of, bytes_of_each, job_bytes, job_size, offset_of, job_count_part, jobs_part, with_list}
use Rattle.cell_layout.proofs.Cells.{is_cell_lem, no_cell_lem}
use Rattle.cell_layout.proofs.EntryBytes.{one_stored, joined_length, EntriesLaid, none_written, more_written, all_written, written_length}
use Rattle.cell_layout.proofs.Parts.{put_into}
use Rattle.cell_writes.proofs.put_list.Goals as goal

-- the bytes with the count in them
abbrev counted : JobList → List ℕ → List ℕ
counted l bytes = set bytes (offset_of job_count_part) (l.count % 256)

laid_length : (l : JobList) (bytes : List ℕ) (i : ℕ) {now : List ℕ} → EntriesLaid job_bytes job_size (offset_of jobs_part) l.jobs bytes i now
    → length now ≡ length bytes
laid_length l bytes i w = written_length job_bytes job_size (offset_of jobs_part) l.jobs bytes i w

pub returns-then-cell-lt-CELL : goal.returns-then-cell-lt-CELL
unfolding with_list
returns-then-cell-lt-CELL c = rw (no_cell_lem c.args.cell.now (omega arith)) refl

pub loop-i-init : goal.loop-i-init
loop-i-init c =
    let l = c.args.l in
    let bytes = c.args.cell.now in
    record {
      room = omega (arith, length-set bytes (offset_of job_count_part) (l.count % 256));
      laid = none_written job_bytes job_size (offset_of jobs_part) l.jobs (counted l bytes);
    }

pub loop-i-preserved : goal.loop-i-preserved
loop-i-preserved c =
    let l = c.args.l in
    let t = c.loop-i in
    let first = counted l c.args.cell.now in
    let next = more_written job_bytes job_size (offset_of jobs_part) l.jobs first t.i no_job (omega arith) t.invariant.laid refl refl c.lay_job.ensures in
    record {
      room = omega (arith, laid_length l first _ next, laid_length l first _ t.invariant.laid);
      laid = rw add-one next;
    }

pub returns : goal.returns
unfolding with_list
returns c =
    let l = c.args.l in
    let bytes = c.args.cell.now in
    let jobs = all_written job_bytes job_size (offset_of jobs_part) l.jobs (counted l bytes) _ (omega arith) c.loop-i.invariant.laid in
    let slots : length l.jobs ≡ 64 = omega arith in
    let long = joined_length job_bytes job_size (λ j. refl) l.jobs ∙ ap (λ n. job_size * n) slots in
    let count = one_stored (offset_of job_count_part) (l.count % 256) bytes (omega arith) in
    rw (is_cell_lem bytes (omega arith)) (put_into jobs_part (bytes_of_each job_bytes l.jobs) long jobs (put_into job_count_part (bytes_of 1 l.count) {now = bytes} refl count refl))
