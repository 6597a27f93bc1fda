-- A slot's job is what stands at its three numbers.
use Rattle.std.proofs.Common.{sym, arith}
use Rattle.std.proofs.Math.ListN.{get_or-eq_default}
use Rattle.model.specs.Jobs.{no_job}
use Rattle.internals.specs.JobNumbers.{jobs_laid}
use Rattle.internals.proofs.JobsLaid.{slots_laid, job_laid}
use Rattle.table_jobs.proofs.job_at.Goals as goal

pub returns-then-at-gt63 : goal.returns-then-at-gt63
returns-then-at-gt63 c =
    let xs = c.args.jobs.now in
    sym (get_or-eq_default (jobs_laid xs) no_job {n = c.args.at} (omega (arith, slots_laid xs)))

pub returns : goal.returns
returns c = sym (job_laid c.args.jobs.now c.args.at no_job (omega arith))
