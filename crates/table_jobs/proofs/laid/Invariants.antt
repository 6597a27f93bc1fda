-- The slots passed are those of the list, each written over its own three numbers.
use Rattle.std.proofs.Common.{◌≡◌, get_or, ℕ, ◌<◌, length}
use Rattle.model.specs.Jobs.{no_job}
use Rattle.internals.specs.JobNumbers.{jobs_laid}
use Rattle.table_jobs.proofs.laid.Given as goal

abbrev pub invariant-loop-i : goal.invariant-loop-i
invariant-loop-i l =
    record {
      long : length l.numbers ≡ 192;
      passed : (k : ℕ) → k < l.i → get_or (jobs_laid l.numbers) k no_job ≡ get_or l.t.jobs k no_job;
    }
