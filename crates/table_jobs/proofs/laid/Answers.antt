use Rattle.std.proofs.Common.{◌≡◌, ◌<◌, length, get_or, sym, ◌∙◌, arith}
use Rattle.std.proofs.lemmas.List.{ext_get_or}
use mathlib.Core.Logic.{⊎_elim}
use Rattle.model.specs.Jobs.{no_job}
use Rattle.model.proofs.Decide.{decided, decides_eq}
use Rattle.internals.specs.JobNumbers.{jobs_laid}
use Rattle.internals.proofs.JobsLaid.{slots_laid, written_length, job_written, others_written}
use Rattle.table_jobs.proofs.laid.Goals as goal

pub loop-i-preserved : goal.loop-i-preserved
loop-i-preserved c =
    let l = c.loop-i in
    let low : l.i < 64 = c.loop-i-test.true in
    let long = l.invariant.long in
    let j = get_or c.args.t.jobs l.i no_job in
    let here = job_written l.numbers l.i j long low in
    record {
      long = written_length l.numbers l.i j long low;
      passed = λ k h.
          ⊎_elim (λ (e : k ≡ l.i). rw e here)
          (λ other. others_written l.numbers l.i j long low k (omega arith) other ∙ l.invariant.passed k (omega (arith, other)))
          (decided (decides_eq k l.i));
    }

pub returns : goal.returns
returns c =
    let l = c.loop-i in
    let jobs = c.args.t.jobs in
    let long : length jobs ≡ 64 = omega arith in
    ext_get_or no_job (jobs_laid l.numbers) jobs (slots_laid l.numbers ∙ sym long) (λ k h. l.invariant.passed k (omega (arith, slots_laid l.numbers)))
