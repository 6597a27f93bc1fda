-- What records say of a plan, with no reader in sight: the plan holds a value exactly when there is the record with that key and
-- that value. So where there is no such record it holds 0, and neither the order within a section nor comments, empty lines or
-- leading zeros matter.
use Rattle.std.specs.Prelude.{ℕ, ◌≤◌, List, ◌↔◌, ◌≡◌, length, get_or}
use Rattle.model.specs.Limits.{max_resources, max_types, max_rows, max_all_stages}
use Rattle.model.specs.Numbers.{InRange}
use Rattle.model.specs.Plan.{no_stage, capacity_of, rank_of, bound_of, length_of, demand_of, weight_of}
use Rattle.model.specs.declared.Plan.{Plan}
use Rattle.plan_text.specs.Records.{section_c, section_r, section_t, section_s, section_b, section_a, section_k, Has}
use Rattle.plan_text.specs.declared.Record.{Record}

-- a record of a section with its numbers
abbrev pub line : ℕ → ℕ → ℕ → ℕ → ℕ → Record
line section a b c d = record { section = section; first = a; second = b; third = c; fourth = d }

-- the records as document 01 writes them
abbrev pub C : ℕ → ℕ → ℕ → Record
C resources types rows = line section_c resources types rows 0

abbrev pub R : ℕ → ℕ → Record
R resource capacity = line section_r resource capacity 0 0

abbrev pub T : ℕ → ℕ → Record
T kind stages = line section_t kind stages 0 0

abbrev pub S : ℕ → ℕ → ℕ → ℕ → Record
S kind stage resource units = line section_s kind stage resource units

abbrev pub B : ℕ → ℕ → Record
B row bound = line section_b row bound 0 0

abbrev pub A : ℕ → ℕ → ℕ → ℕ → Record
A row kind stage weight = line section_a row kind stage weight

abbrev pub K : ℕ → ℕ → Record
K resource rank = line section_k resource rank 0 0

-- what records say of the plan so far: a value of 1 or more is held exactly when its record is there, and what is not there yet is 0
pub record RecordsSaySoFar (rs : List Record) (p : Plan) : Type 0 where
  pub counts : (a b c : ℕ) → 1 ≤ a → ((p.resources ≡ a) × (p.types ≡ b) × (p.rows ≡ c)) ↔ Has rs (C a b c)
  pub capacities : (r v : ℕ) → 1 ≤ v → (capacity_of p r ≡ v) ↔ Has rs (R r v)
  pub lengths : (t v : ℕ) → 1 ≤ v → (length_of p t ≡ v) ↔ Has rs (T t v)
  pub demands : (t k r v : ℕ) → 1 ≤ v → (demand_of p r t k ≡ v) ↔ Has rs (S t k r v)
  pub bounds : (w v : ℕ) → 1 ≤ v → (bound_of p w ≡ v) ↔ Has rs (B w v)
  pub weights : (w t k v : ℕ) → 1 ≤ v → (weight_of p w t k ≡ v) ↔ Has rs (A w t k v)
  pub ranks : (r v : ℕ) → 1 ≤ v → (rank_of p r ≡ v) ↔ Has rs (K r v)

-- and of the whole plan: it has its counts, and every row its bound, which may be 0
pub record RecordsSay (rs : List Record) (p : Plan) : Type 0 where
  pub so_far : RecordsSaySoFar rs p
  pub counts : (a b c : ℕ) → ((p.resources ≡ a) × (p.types ≡ b) × (p.rows ≡ c)) ↔ Has rs (C a b c)
  pub bounds : (w v : ℕ) → InRange w p.rows → (bound_of p w ≡ v) ↔ Has rs (B w v)

-- as many entries as the arrays of a plan have: of every plan that a program holds
pub record Sized (p : Plan) : Type 0 where
  pub capacity : length p.capacity ≡ max_resources
  pub rank : length p.rank ≡ max_resources
  pub bound : length p.bound ≡ max_rows
  pub lengths : length p.lengths ≡ max_types
  pub stages : length p.stages ≡ max_all_stages
  pub demand : (i : ℕ) → length (get_or p.stages i no_stage).demand ≡ max_resources
  pub weight : (i : ℕ) → length (get_or p.stages i no_stage).weight ≡ max_rows

-- the same records, in whatever order and however often
abbrev pub SameRecords : List Record → List Record → Type 0
SameRecords rs qs = (r : Record) → Has rs r ↔ Has qs r
