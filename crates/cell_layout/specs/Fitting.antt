-- Values that are read back from a cell as they were written: as many entries as there is room for, and what takes more than one byte, a bound
-- and the numbers of a job, within its bytes. Of a plan's entries of one byte nothing is asked: they are laid down as they are, and a program's
-- are bytes by their type. The plan of every text fits (`read_fits`), and every list that agrees with a sound plan (`agreeing_fits`); a list that
-- counts more than 255 jobs does not.
use Rattle.std.specs.Prelude.{ℕ, ◌<◌, ◌≡◌, length}
use Rattle.model.specs.Limits.{max_resources, max_types, max_rows, max_all_stages, max_jobs}
use Rattle.model.specs.Numbers.{Each}
use Rattle.model.specs.declared.Stage.{Stage}
use Rattle.model.specs.declared.Plan.{Plan}
use Rattle.model.specs.declared.Job.{Job}
use Rattle.events.specs.declared.JobList.{JobList}

abbrev pub StageFits : Stage → Type 0
StageFits s = (length s.demand ≡ max_resources) × (length s.weight ≡ max_rows)

pub record PlanFits (p : Plan) : Type 0 where
  pub capacity : length p.capacity ≡ max_resources
  pub rank : length p.rank ≡ max_resources
  pub rows : length p.bound ≡ max_rows
  pub bounds : Each (λ (b : ℕ). b < 65536) p.bound
  pub lengths : length p.lengths ≡ max_types
  pub slots : length p.stages ≡ max_all_stages
  pub stages : Each StageFits p.stages

abbrev pub JobFits : Job → Type 0
JobFits j = (j.number < 4294967296) × (j.kind < 4294967296) × (j.stage < 4294967296)

pub record ListFits (l : JobList) : Type 0 where
  pub count : l.count < 256
  pub slots : length l.jobs ≡ max_jobs
  pub jobs : Each JobFits l.jobs
