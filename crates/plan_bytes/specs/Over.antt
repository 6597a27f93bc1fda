-- The two forms of a plan. What a promise speaks of is a plan with its list of stages; what runs is a frame and the bytes of the stages, one behind
-- the other, both lent where they lie (`LentPlan`). `plan_over` is the plan that the two are.
use Rattle.std.specs.Prelude.{ℕ, zero, suc, ◌+◌, ◌*◌, cond, ◌&&◌, List, [], ◌∷◌, ◌++◌, eqb, ltb, length, take, drop, replicate}
use Rattle.model.specs.Limits.{max_resources, max_types, max_rows, max_all_stages}
use Rattle.model.specs.Plan.{no_stage}
use Rattle.model.specs.declared.Stage.{Stage}
use Rattle.model.specs.declared.Plan.{Plan}
use Rattle.plan_bytes.specs.declared.Frame.{Frame}
use Rattle.plan_bytes.specs.declared.LentPlan.{LentPlan}

-- n bytes from an offset on
abbrev pub bytes_from : ℕ → ℕ → List ℕ → List ℕ
bytes_from from n bytes = take n (drop from bytes)

-- n entries of so many bytes each, one behind the other; a byte that is missing is read as none
abbrev pub entries_in : {A : Type 0} → (List ℕ → A) → ℕ → ℕ → List ℕ → List A
entries_in read size zero bytes = []
entries_in read size (suc n) bytes = read (take size bytes) ∷ entries_in read size n (drop size bytes)

-- a stage has 64 bytes: what it demands of each resource, and what it weighs in each row; as they are read, and as they are laid
abbrev pub stage_size : ℕ
stage_size = 64

abbrev pub stage_in : List ℕ → Stage
stage_in bytes = record { demand = take max_resources bytes; weight = bytes_from max_resources max_rows bytes }

abbrev pub stage_bytes : Stage → List ℕ
stage_bytes s = s.demand ++ s.weight

-- the bytes of all stages
abbrev pub stages_size : ℕ
stages_size = 8192

-- the plan of a frame and of what is read from any bytes: a demand or a weight whose byte is missing is 0, and none beyond the stages is read
unfoldable pub plan_read : Frame → List ℕ → Plan
plan_read f bytes =
    record {
      resources = f.resources;
      types = f.types;
      rows = f.rows;
      capacity = f.capacity;
      rank = f.rank;
      bound = f.bound;
      lengths = f.lengths;
      stages = entries_in stage_in stage_size max_all_stages bytes;
    }

-- the bytes if they are those of all stages and of nothing else; if not, none
abbrev pub whole_stages : List ℕ → List ℕ
whole_stages bytes = cond (eqb (length bytes) stages_size) bytes []

-- the plan of a frame and of the bytes lent. With bytes too few or too many no stage demands anything, so it is not sound
unfoldable pub plan_over : Frame → List ℕ → Plan
plan_over f bytes = plan_read f (whole_stages bytes)

-- the plan that is lent
abbrev pub plan_of : LentPlan → Plan
plan_of p = plan_over p.frame.now p.stages.now

-- the stage at an index, counted from 0; none beyond the last, and where the bytes are not those of all stages
unfoldable pub stage_at : List ℕ → ℕ → Stage
stage_at bytes i =
    cond (eqb (length bytes) stages_size && ltb i max_all_stages)
    (record { demand = bytes_from (i * stage_size) max_resources bytes; weight = bytes_from (i * stage_size + max_resources) max_rows bytes })
    no_stage

-- the frame of the empty plan, whose stages are bytes of 0
unfoldable pub empty_frame : Frame
empty_frame =
    record {
      resources = 0;
      types = 0;
      rows = 0;
      capacity = replicate max_resources 0;
      rank = replicate max_resources 0;
      bound = replicate max_rows 0;
      lengths = replicate max_types 0;
    }
