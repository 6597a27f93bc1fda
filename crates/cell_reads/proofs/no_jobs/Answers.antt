-- The list written out is that of no jobs.
use Rattle.std.proofs.Common.{refl}
use Rattle.events.specs.JobList.{list_of}
use Rattle.cell_reads.proofs.no_jobs.Goals as goal

pub returns : goal.returns
unfolding list_of
returns c = refl
