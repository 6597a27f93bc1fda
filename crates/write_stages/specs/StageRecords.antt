-- The records of demands and of weights in one form, so that one walk over the stages puts either. No promise rests on it: the contracts of
-- both entrances are equations with `demand_records` and `weight_records`.
use Rattle.std.specs.Prelude.{ℕ, ◌+◌, ◌-◌, List, get_or, Option, None, Some}
use Rattle.model.specs.Limits.{max_all_stages}
use Rattle.model.specs.Numbers.{at}
use Rattle.model.specs.Plan.{no_stage, length_of, stage_of}
use Rattle.model.specs.declared.Plan.{Plan}
use Rattle.model.specs.declared.Stage.{Stage}
use Rattle.plan_bytes.specs.Over.{entries_in, stage_in, stage_size}
use Rattle.plan_text.specs.Meaning.{S, A}
use Rattle.plan_text.specs.declared.Record.{Record}
use Rattle.canonical_text.specs.CanonicalText.{list_to, valued, entry_records}

-- the stage at an index, counted from 0, of the plan that is read from any bytes (`plan_read`)
unfoldable pub stage_read : List ℕ → ℕ → Stage
stage_read bytes i = get_or (entries_in stage_in stage_size max_all_stages bytes) i no_stage

-- what it weighs in a row, A; where no row is named what it demands, S
unfoldable pub stage_records : ℕ → Option ℕ → ℕ → ℕ → Stage → List Record
stage_records resources None t k s = entry_records (S t k) resources s.demand
stage_records resources (Some row) t k s = valued (at s.weight row) (A row t k)

-- of n stages of a type, by where the first stands
abbrev pub records_from : List ℕ → ℕ → Option ℕ → ℕ → ℕ → ℕ → List Record
records_from bytes resources row t first n = list_to n (λ k. stage_records resources row t k (stage_read bytes (first + (k - 1))))

-- of a type of a plan, and of all of them
abbrev pub type_records : Plan → Option ℕ → ℕ → List Record
type_records p row t = list_to (length_of p t) (λ k. stage_records p.resources row t k (stage_of p t k))

abbrev pub plan_stages : Plan → Option ℕ → List Record
plan_stages p row = list_to p.types (type_records p row)
