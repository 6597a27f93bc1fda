-- The ledger (document 01's shift book): fed the plan, the events and their answers, and nothing of a table.
use Rattle.std.specs.Prelude.{ℕ, ◌+◌, ◌-◌, cond, List, [], ◌∷◌}
use Rattle.model.specs.Plan.{demand_of}
use Rattle.model.specs.Jobs.{is_active, job_of, advanced_job, loaded, advanced, removed}
use Rattle.model.specs.declared.Plan.{Plan}
use Rattle.model.specs.declared.Job.{Job}
use Rattle.events.specs.Events.{is_admitted}
use Rattle.events.specs.declared.Event.{Event}
use Rattle.events.specs.declared.Event.TheVariants.{Load, Advance, Unload, Pull}
use Rattle.events.specs.declared.Answer.{Answer}

-- the jobs with type and stage, in order; per resource the units taken and given back so far, without limit
pub record Ledger : Type 0 where
  pub jobs : List Job
  pub taken : ℕ → ℕ
  pub given : ℕ → ℕ

abbrev pub empty_ledger : Ledger
empty_ledger = record { jobs = []; taken = λ r. 0; given = λ r. 0 }

-- what the job's present stage demands
abbrev pub demand_at : Plan → Job → ℕ → ℕ
demand_at p j r = demand_of p r j.kind j.stage

-- what an advance takes, the new demand above the old, and gives back, the old above the new
abbrev pub takes : Plan → Job → ℕ → ℕ
takes p j r = demand_at p (advanced_job p j) r - demand_at p j r

abbrev pub gives : Plan → Job → ℕ → ℕ
gives p j r = demand_at p j r - demand_at p (advanced_job p j) r

-- a job struck, and the whole demand of its stage given back
abbrev pub struck : Plan → Ledger → ℕ → Ledger
struck p l n =
    cond (is_active n l.jobs)
    (record {
      jobs = removed n l.jobs;
      taken = l.taken;
      given = λ (r : ℕ). l.given r + demand_at p (job_of n l.jobs) r;
    })
    l

-- an admitted event is written down; a move or a pull of a job that the ledger lacks changes nothing
abbrev pub posted : Plan → Ledger → Event → Ledger
posted p l (Load n t) =
    record { jobs = loaded n t l.jobs; taken = λ (r : ℕ). l.taken r + demand_of p r t 1; given = l.given }
posted p l (Advance n) =
    cond (is_active n l.jobs)
    (record {
      jobs = advanced p n l.jobs;
      taken = λ (r : ℕ). l.taken r + takes p (job_of n l.jobs) r;
      given = λ (r : ℕ). l.given r + gives p (job_of n l.jobs) r;
    })
    l
posted p l (Unload n) = struck p l n
posted p l (Pull n) = struck p l n

-- a refused event changes nothing
unfoldable pub entered : Plan → Ledger → Event → Answer → Ledger
entered p l e a = cond (is_admitted a) (posted p l e) l

-- the ledger after events with their answers
abbrev pub ledger_after : Plan → Ledger → List Event → List Answer → Ledger
ledger_after p l [] more = l
ledger_after p l (e ∷ es) [] = l
ledger_after p l (e ∷ es) (a ∷ more) = ledger_after p (entered p l e a) es more
