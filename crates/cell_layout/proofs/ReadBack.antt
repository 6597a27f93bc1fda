-- What is written is what is read: the contents of each part are what is read from it, and parts read back. A plan and a job list have no part
-- in common, so writing the one leaves the other as it is.
use Prim.Native.Nat.{ℕ, zero, suc, ◌*◌, ◌/◌, ◌≤◌, ◌<◌}
use native.Mathlib.Nat.{mul-zero, mul-suc, mod-add-div}
use native.Mathlib.Omega.{arith}
use mathlib.Core.Bool.{true}
use mathlib.Core.List.{List, [], ◌∷◌}
use mathlib.Core.Path.{◌≡◌, refl, sym, ap, ◌∙◌}
use lib.ListN.{length, length-append}
use lib.Seq.{take_at, drop_at}
use Rattle.model.specs.Limits.{max_rows, max_all_stages, max_jobs}
use Rattle.model.specs.Numbers.{Each}
use Rattle.model.specs.declared.Plan.{Plan}
use Rattle.model.specs.declared.Job.{Job}
use Rattle.model.proofs.Lists.{each_map}
use Rattle.events.specs.declared.JobList.{JobList}
use Rattle.plan_bytes.specs.Over.{entries_in, stage_in, stage_size, stage_bytes, plan_read}
use Rattle.plan_bytes.proofs.Laid.{stage_back}
use Rattle.cell_layout.specs.Layout.{value_of, bytes_of, bytes_of_each, bound_size, job_in, job_size, job_bytes, cell_size, with_parts}
use Rattle.cell_layout.specs.Layout.{resources_part, types_part, rows_part, capacities_part, ranks_part, bounds_part, lengths_part, stages_part, job_count_part, jobs_part}
use Rattle.cell_layout.specs.Layout.{is_cell, frame_laid, plan_laid, list_laid, plan_in, list_in, plan_parts, list_parts, with_plan, with_list}
use Rattle.cell_layout.specs.Fitting.{StageFits, PlanFits, JobFits, ListFits}
use Rattle.cell_layout.proofs.Cells.{is_cell_lem}
use Rattle.cell_layout.proofs.Parts.{PartsKept, Back, parts_room, parts_kept, parts_back}

-- a number below what its bytes have room for
abbrev limit : ℕ → ℕ
limit zero = 1
limit (suc k) = 256 * limit k

number_back : (k n : ℕ) → n < limit k → value_of (bytes_of k n) ≡ n
number_back zero n h = omega arith
number_back (suc k) n h = omega (arith, mod-add-div n 256, number_back k (n / 256) (omega (arith, mod-add-div n 256)))

one_byte : (b : ℕ) → value_of (b ∷ []) ≡ b
one_byte b = omega arith

-- entries: what is written of each is read as it was, so all of them are, and they have the sizes of all
module _ {A : Type 0} (read : List ℕ → A) (write : A → List ℕ) (size : ℕ) where
  abbrev Same : A → Type 0
  Same x = (length (write x) ≡ size) × (read (write x) ≡ x)

  entries_back : (xs : List A) {n : ℕ} → Each Same xs → length xs ≡ n → (length (bytes_of_each write xs) ≡ size * n) × (entries_in read size n (bytes_of_each write xs) ≡ xs)
  entries_back [] h e = rw (sym e) (sym (mul-zero size), refl)
  entries_back (x ∷ xs) h e =
      let rest = entries_back xs h.1 refl in
      rw (sym e) (
        omega (arith, length-append (write x) (bytes_of_each write xs), h.0.0, mul-suc size (length xs), rest.0),
        rw (take_at (write x) (bytes_of_each write xs) size h.0.0, drop_at (write x) (bytes_of_each write xs) size h.0.0, h.0.1) (ap (λ ys. x ∷ ys) rest.1),
      )

job_back : (j : Job) → JobFits j → Same job_in job_bytes job_size j
job_back j fits =
    (refl, λ i. record { number = number_back 4 j.number fits.0 i; kind = number_back 4 j.kind fits.1 i; stage = number_back 4 j.stage fits.2 i })

-- a plan and a job list are read by their parts alone
module _ (new bytes : List ℕ) where
  plan_same : (l : JobList) → PartsKept (list_parts l) new bytes → plan_laid new ≡ plan_laid bytes
  unfolding plan_laid plan_read frame_laid
  plan_same l same =
      λ i. record {
        resources = value_of (same resources_part (λ old. refl) i);
        types = value_of (same types_part (λ old. refl) i);
        rows = value_of (same rows_part (λ old. refl) i);
        capacity = same capacities_part (λ old. refl) i;
        rank = same ranks_part (λ old. refl) i;
        bound = entries_in value_of bound_size max_rows (same bounds_part (λ old. refl) i);
        lengths = same lengths_part (λ old. refl) i;
        stages = entries_in stage_in stage_size max_all_stages (same stages_part (λ old. refl) i);
      }

  list_same : (p : Plan) → PartsKept (plan_parts p) new bytes → list_laid new ≡ list_laid bytes
  unfolding list_laid
  list_same p same =
      λ i. record {
        count = value_of (same job_count_part (λ old. refl) i);
        jobs = entries_in job_in job_size max_jobs (same jobs_part (λ old. refl) i);
      }

module _ (new : List ℕ) where
  list_there : (l : JobList) → ListFits l → Back (list_parts l) new → list_laid new ≡ l
  unfolding list_laid
  list_there l fits back =
      let each-job = each_map JobFits (Same job_in job_bytes job_size) job_back l.jobs fits.jobs in
      let jobs = entries_back job_in job_bytes job_size l.jobs each-job fits.slots in
      let count = ap value_of (back job_count_part _ (λ old. refl) refl) ∙ number_back 1 l.count fits.count in
      λ i. record { count = count i; jobs = (ap (entries_in job_in job_size max_jobs) (back jobs_part _ (λ old. refl) jobs.0) ∙ jobs.1) i }

  plan_there : (p : Plan) → PlanFits p → Back (plan_parts p) new → plan_laid new ≡ p
  unfolding plan_laid plan_read frame_laid
  plan_there p fits back =
      let each-bound = each_map (λ (b : ℕ). b < 65536) (Same value_of (bytes_of bound_size) bound_size) (λ b small. (refl, number_back 2 b small)) p.bound fits.bounds in
      let bounds = entries_back value_of (bytes_of bound_size) bound_size p.bound each-bound fits.rows in
      let each-stage = each_map StageFits (Same stage_in stage_bytes stage_size) (λ s fit. stage_back s fit.0 fit.1) p.stages fits.stages in
      let stages = entries_back stage_in stage_bytes stage_size p.stages each-stage fits.slots in
      λ i. record {
        resources = (ap value_of (back resources_part _ (λ old. refl) refl) ∙ one_byte p.resources) i;
        types = (ap value_of (back types_part _ (λ old. refl) refl) ∙ one_byte p.types) i;
        rows = (ap value_of (back rows_part _ (λ old. refl) refl) ∙ one_byte p.rows) i;
        capacity = back capacities_part _ (λ old. refl) fits.capacity i;
        rank = back ranks_part _ (λ old. refl) fits.rank i;
        bound = (ap (entries_in value_of bound_size max_rows) (back bounds_part _ (λ old. refl) bounds.0) ∙ bounds.1) i;
        lengths = back lengths_part _ (λ old. refl) fits.lengths i;
        stages = (ap (entries_in stage_in stage_size max_all_stages) (back stages_part _ (λ old. refl) stages.0) ∙ stages.1) i;
      }

module _ (bytes : List ℕ) (h : cell_size ≤ length bytes) where
  still_cell : (ws : List (ℕ × List ℕ)) → is_cell (with_parts ws bytes) ≡ true
  still_cell ws = is_cell_lem (with_parts ws bytes) (omega (arith, parts_room ws bytes))

  pub list_room : (l : JobList) → length (with_list l bytes) ≡ length bytes
  unfolding with_list
  list_room l = rw (is_cell_lem bytes h) (parts_room (list_parts l) bytes)

  pub plan_kept : (l : JobList) → plan_in (with_list l bytes) ≡ plan_in bytes
  unfolding with_list
  plan_kept l = let ws = list_parts l in rw (is_cell_lem bytes h, still_cell ws) (plan_same (with_parts ws bytes) bytes l (parts_kept ws bytes h))

  pub list_kept : (p : Plan) → list_in (with_plan p bytes) ≡ list_in bytes
  unfolding with_plan
  list_kept p = let ws = plan_parts p in rw (is_cell_lem bytes h, still_cell ws) (list_same (with_parts ws bytes) bytes p (parts_kept ws bytes h))

  pub list_back : (l : JobList) → ListFits l → list_in (with_list l bytes) ≡ l
  unfolding with_list
  list_back l fits = let ws = list_parts l in rw (is_cell_lem bytes h, still_cell ws) (list_there (with_parts ws bytes) l fits (parts_back ws bytes h))

  pub plan_back : (p : Plan) → PlanFits p → plan_in (with_plan p bytes) ≡ p
  unfolding with_plan
  plan_back p fits = let ws = plan_parts p in rw (is_cell_lem bytes h, still_cell ws) (plan_there (with_parts ws bytes) p fits (parts_back ws bytes h))
