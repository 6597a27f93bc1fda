use Rattle.std.proofs.Common.{sym, ◌∙◌}
use Rattle.events.specs.JobList.{jobs_of}
use Rattle.internals.specs.JobNumbers.{list_lent}
use Rattle.internals.proofs.Positions.{found_no_job}
use Rattle.table_excess.proofs.named.Goals as goal

pub returns-in-None : goal.returns-in-None
returns-in-None c = found_no_job c.args.job (jobs_of (list_lent c.args.jobs)) (sym c.look_up.ensures ∙ c.in-None.is)
