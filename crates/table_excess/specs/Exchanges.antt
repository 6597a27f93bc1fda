-- The stages that an event exchanges, by where they stand: a load gives nothing back, an advance takes the stage after the one given back, and an
-- unload and a pull take nothing.
use Rattle.std.specs.Prelude.{ℕ, ◌+◌, List}
use Rattle.model.specs.Limits.{max_all_stages}
use Rattle.model.specs.Jobs.{job_of}
use Rattle.model.specs.declared.Job.{Job}
use Rattle.events.specs.declared.Event.{Event}
use Rattle.events.specs.declared.Event.TheVariants.{Load, Advance, Unload, Pull}
use Rattle.internals.specs.Internals.{index_in}
use Rattle.table_excess.specs.declared.Exchange.{Exchange}

-- in a plan with so many types, and so many stages of each
module _ (lengths : List ℕ) (types : ℕ) where
  abbrev pub removal_in : List Job → ℕ → Exchange
  removal_in js n = record { old = index_in lengths types (job_of n js).kind (job_of n js).stage; new = max_all_stages }

  abbrev pub exchange_in : List Job → Event → Exchange
  exchange_in js (Load n t) = record { old = max_all_stages; new = index_in lengths types t 1 }
  exchange_in js (Advance n) =
      record {
        old = index_in lengths types (job_of n js).kind (job_of n js).stage;
        new = index_in lengths types (job_of n js).kind ((job_of n js).stage + 1);
      }
  exchange_in js (Unload n) = removal_in js n
  exchange_in js (Pull n) = removal_in js n
