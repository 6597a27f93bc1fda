-- A cell: a plan and a table in the bytes of a host. It is a list of parts, one behind the other; where a part begins is the sum of the sizes
-- before it, and nothing else says an offset. A number of more than one byte has its lowest byte first.
use Rattle.std.specs.Prelude.{ℕ, zero, suc, ◌+◌, ◌*◌, ◌/◌, ◌%◌, Bool, cond, List, [], ◌∷◌, ◌++◌, leb, length, take, get_or}
use Rattle.model.specs.Limits.{max_resources, max_types, max_rows, max_jobs}
use Rattle.model.specs.Plan.{empty_plan}
use Rattle.model.specs.declared.Plan.{Plan}
use Rattle.model.specs.declared.Job.{Job}
use Rattle.events.specs.JobList.{empty_list}
use Rattle.events.specs.declared.JobList.{JobList}
use Rattle.plan_bytes.specs.Over.{bytes_from, entries_in, stage_bytes, stages_size, plan_read, empty_frame}
use Rattle.plan_bytes.specs.declared.Frame.{Frame}
use Rattle.moves_text.specs.Buffer.{overlaid_at}

-- the number that these bytes hold, and the n lowest bytes of a number
abbrev pub value_of : List ℕ → ℕ
value_of [] = 0
value_of (b ∷ bs) = b + 256 * value_of bs

abbrev pub bytes_of : ℕ → ℕ → List ℕ
bytes_of zero v = []
bytes_of (suc n) v = v % 256 ∷ bytes_of n (v / 256)

-- what entries come to, one behind the other
abbrev pub bytes_of_each : {A : Type 0} → (A → List ℕ) → List A → List ℕ
bytes_of_each write [] = []
bytes_of_each write (x ∷ xs) = write x ++ bytes_of_each write xs

-- a bound has 2 bytes
abbrev pub bound_size : ℕ
bound_size = 2

-- a job is three numbers of 4 bytes each: its number, its type and its stage
abbrev pub number_size : ℕ
number_size = 4

abbrev pub job_size : ℕ
job_size = 3 * number_size

abbrev pub job_in : List ℕ → Job
job_in bytes =
    record {
      number = value_of (take number_size bytes);
      kind = value_of (bytes_from number_size number_size bytes);
      stage = value_of (bytes_from (2 * number_size) number_size bytes);
    }

abbrev pub job_bytes : Job → List ℕ
job_bytes j = bytes_of number_size j.number ++ bytes_of number_size j.kind ++ bytes_of number_size j.stage

-- the parts of a cell in their order, by how many bytes each has
abbrev pub sizes : List ℕ
sizes =
    1  -- the count of resources
    ∷ 1  -- the count of types
    ∷ 1  -- the count of rows
    ∷ max_resources  -- 32: the capacities
    ∷ max_resources  -- 32: the ranks
    ∷ bound_size * max_rows  -- 64: the bounds
    ∷ max_types  -- 16: the lengths
    ∷ stages_size  -- 8192: the stages
    ∷ 1  -- the count of jobs
    ∷ job_size * max_jobs  -- 768: the jobs
    ∷ []

-- the same parts by their names
abbrev pub resources_part : ℕ
resources_part = 0

abbrev pub types_part : ℕ
types_part = 1

abbrev pub rows_part : ℕ
rows_part = 2

abbrev pub capacities_part : ℕ
capacities_part = 3

abbrev pub ranks_part : ℕ
ranks_part = 4

abbrev pub bounds_part : ℕ
bounds_part = 5

abbrev pub lengths_part : ℕ
lengths_part = 6

abbrev pub stages_part : ℕ
stages_part = 7

abbrev pub job_count_part : ℕ
job_count_part = 8

abbrev pub jobs_part : ℕ
jobs_part = 9

-- where a part begins, and the bytes of the whole
abbrev pub total : List ℕ → ℕ
total [] = 0
total (n ∷ ns) = n + total ns

abbrev pub size_of : ℕ → ℕ
size_of k = get_or sizes k 0

abbrev pub offset_of : ℕ → ℕ
offset_of k = total (take k sizes)

abbrev pub cell_size : ℕ
cell_size = total sizes

-- there are bytes enough for a cell; those beyond belong to the host
abbrev pub is_cell : List ℕ → Bool
is_cell bytes = leb cell_size (length bytes)

-- what lies in a part, and the bytes with something else in it, as much as it has room for; and in several, one after the other
abbrev pub part_in : ℕ → List ℕ → List ℕ
part_in k bytes = bytes_from (offset_of k) (size_of k) bytes

abbrev pub with_part : ℕ → List ℕ → List ℕ → List ℕ
with_part k new bytes = overlaid_at (offset_of k) (take (size_of k) new) bytes

abbrev pub with_parts : List (ℕ × List ℕ) → List ℕ → List ℕ
with_parts [] bytes = bytes
with_parts ((k, new) ∷ more) bytes = with_parts more (with_part k new bytes)

-- the plan that lies in the bytes: its frame, and the plan of that and of the bytes of the stages; too few of them hold the empty plan
unfoldable pub frame_laid : List ℕ → Frame
frame_laid bytes =
    record {
      resources = value_of (part_in resources_part bytes);
      types = value_of (part_in types_part bytes);
      rows = value_of (part_in rows_part bytes);
      capacity = part_in capacities_part bytes;
      rank = part_in ranks_part bytes;
      bound = entries_in value_of bound_size max_rows (part_in bounds_part bytes);
      lengths = part_in lengths_part bytes;
    }

abbrev pub frame_in : List ℕ → Frame
frame_in bytes = cond (is_cell bytes) (frame_laid bytes) empty_frame

unfoldable pub plan_laid : List ℕ → Plan
plan_laid bytes = plan_read (frame_laid bytes) (part_in stages_part bytes)

abbrev pub plan_in : List ℕ → Plan
plan_in bytes = cond (is_cell bytes) (plan_laid bytes) empty_plan

-- the job list of the table that lies in the bytes; too few of them hold no job
unfoldable pub list_laid : List ℕ → JobList
list_laid bytes = record { count = value_of (part_in job_count_part bytes); jobs = entries_in job_in job_size max_jobs (part_in jobs_part bytes) }

abbrev pub list_in : List ℕ → JobList
list_in bytes = cond (is_cell bytes) (list_laid bytes) empty_list

-- what a plan and a job list put into which part
abbrev pub plan_parts : Plan → List (ℕ × List ℕ)
plan_parts p =
    (resources_part, p.resources ∷ [])
    ∷ (types_part, p.types ∷ [])
    ∷ (rows_part, p.rows ∷ [])
    ∷ (capacities_part, p.capacity)
    ∷ (ranks_part, p.rank)
    ∷ (bounds_part, bytes_of_each (bytes_of bound_size) p.bound)
    ∷ (lengths_part, p.lengths)
    ∷ (stages_part, bytes_of_each stage_bytes p.stages)
    ∷ []

abbrev pub list_parts : JobList → List (ℕ × List ℕ)
list_parts l = (job_count_part, bytes_of 1 l.count) ∷ (jobs_part, bytes_of_each job_bytes l.jobs) ∷ []

-- the bytes with a plan in them in place of the one that was there, and with a job list; too few of them stay as they are
unfoldable pub with_plan : Plan → List ℕ → List ℕ
with_plan p bytes = cond (is_cell bytes) (with_parts (plan_parts p) bytes) bytes

unfoldable pub with_list : JobList → List ℕ → List ℕ
with_list l bytes = cond (is_cell bytes) (with_parts (list_parts l) bytes) bytes
