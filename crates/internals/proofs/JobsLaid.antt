-- A job list by its numbers, three a slot: a slot's job is what stands at its three, and beyond the jobs there are none exactly where the numbers
-- beyond theirs are zeros.
use Prim.Native.Nat.{ℕ, ◌+◌, ◌*◌, ◌≤◌, ◌<◌}
use native.Mathlib.Omega.{arith}
use mathlib.Core.Bool.{Bool, true, false, ◌&&◌}
use mathlib.Core.List.{List, [], ◌∷◌}
use mathlib.Core.Logic.{◌≢◌}
use mathlib.Core.Path.{◌≡◌, refl, sym, ap, ◌∙◌}
use lib.Dec.{eqb}
use lib.ListN.{length, drop, get_or, set, length-set}
use lib.Seq.{get_or-set_same, get_or-set_other}
use Rattle.model.specs.Limits.{max_jobs}
use Rattle.model.specs.Numbers.{each}
use Rattle.model.specs.Jobs.{no_job}
use Rattle.model.specs.declared.Job.{Job}
use Rattle.events.specs.JobList.{is_no_job}
use Rattle.events.specs.declared.JobList.{JobList}
use Rattle.plan_bytes.specs.Over.{bytes_from}
use Rattle.plan_bytes.proofs.Laid.{entries_length, entry_laid, tail_laid}
use Rattle.plan_bytes.proofs.StageBytes.{part_entry}
use Rattle.internals.specs.JobNumbers.{job_read, jobs_laid, list_over}

pub slots_laid : (xs : List ℕ) → length (jobs_laid xs) ≡ max_jobs
slots_laid xs = entries_length job_read 3 max_jobs xs

pub job_laid : (xs : List ℕ) (i : ℕ) (d : Job) → i < max_jobs
    → get_or (jobs_laid xs) i d ≡ record { number = get_or xs (i * 3) 0; kind = get_or xs (i * 3 + 1) 0; stage = get_or xs (i * 3 + 2) 0 }
job_laid xs i d h =
    let e : 3 * i ≡ i * 3 = omega arith in
    let first : i * 3 + 0 ≡ i * 3 = omega arith in
    let read : (k : ℕ) → k < 3 → get_or (bytes_from (i * 3) 3 xs) k 0 ≡ get_or xs (i * 3 + k) 0 = part_entry (i * 3) 3 xs in
    entry_laid job_read 3 max_jobs xs i d h
    ∙ rw e (λ j. record { number = (read 0 (omega arith) ∙ ap (λ n. get_or xs n 0) first) j; kind = read 1 (omega arith) j; stage = read 2 (omega arith) j })

-- the numbers of a list's jobs are that list
pub over_laid : (t : JobList) (xs : List ℕ) → jobs_laid xs ≡ t.jobs → list_over t.count xs ≡ t
over_laid t xs e = λ i. record { count = t.count; jobs = e i }

abbrev is_zero : ℕ → Bool
is_zero x = eqb x 0

regrouped : (a b c : Bool) → (a && b && c) ≡ (a && (b && (c && true)))
regrouped false b c = refl
regrouped true false c = refl
regrouped true true false = refl
regrouped true true true = refl

two : (a b : Bool) → (a && b && true) ≡ (a && (b && true))
two a b = regrouped a b true

one : (a : Bool) → (a && true && true) ≡ (a && true)
one false = refl
one true = refl

none_laid : (xs : List ℕ) → length xs ≤ 3 → is_no_job (job_read xs) ≡ each is_zero xs
none_laid [] h = refl
none_laid (a ∷ []) h = one (is_zero a)
none_laid (a ∷ b ∷ []) h = two (is_zero a) (is_zero b)
none_laid (a ∷ b ∷ c ∷ []) h = regrouped (is_zero a) (is_zero b) (is_zero c)
none_laid (a ∷ b ∷ c ∷ d ∷ xs) h = absurd (omega arith)

pub beyond_laid : (xs : List ℕ) (t : ℕ) → t ≤ max_jobs → length xs ≡ 192 → each is_no_job (drop t (jobs_laid xs)) ≡ each is_zero (drop (t * 3) xs)
beyond_laid xs t low long =
    let e : 3 * t ≡ t * 3 = omega arith in
    tail_laid is_no_job is_zero job_read 3 none_laid max_jobs t xs low long ∙ rw e refl

-- a job written over its three numbers is that slot's, and the other slots stay
module _ (xs : List ℕ) (i : ℕ) (j : Job) (long : length xs ≡ 192) (h : i < max_jobs) where
  abbrev pub written : List ℕ
  written = set (set (set xs (i * 3) j.number) (i * 3 + 1) j.kind) (i * 3 + 2) j.stage

  abbrev first : List ℕ
  first = set xs (i * 3) j.number

  abbrev second : List ℕ
  second = set first (i * 3 + 1) j.kind

  pub written_length : length written ≡ 192
  written_length = length-set second _ _ ∙ length-set first _ _ ∙ length-set xs _ _ ∙ long

  apart : (k : ℕ) → k ≢ i * 3 → k ≢ i * 3 + 1 → k ≢ i * 3 + 2 → get_or written k 0 ≡ get_or xs k 0
  apart k a b c =
      get_or-set_other second (i * 3 + 2) k j.stage 0 c
      ∙ get_or-set_other first (i * 3 + 1) k j.kind 0 b
      ∙ get_or-set_other xs (i * 3) k j.number 0 a

  pub job_written : get_or (jobs_laid written) i no_job ≡ j
  job_written =
      let low : i * 3 < length xs = omega (arith, long) in
      let number =
      get_or-set_other second (i * 3 + 2) (i * 3) j.stage 0 (λ e. omega arith)
      ∙ get_or-set_other first (i * 3 + 1) (i * 3) j.kind 0 (λ e. omega arith)
      ∙ get_or-set_same xs (i * 3) j.number 0 low in
      let kind =
      get_or-set_other second (i * 3 + 2) (i * 3 + 1) j.stage 0 (λ e. omega arith)
      ∙ get_or-set_same first (i * 3 + 1) j.kind 0 (omega (arith, long, length-set xs (i * 3) j.number)) in
      let stage = get_or-set_same second (i * 3 + 2) j.stage 0 (omega (arith, long, length-set first (i * 3 + 1) j.kind, length-set xs (i * 3) j.number)) in
      job_laid written i no_job h ∙ (λ n. record { number = number n; kind = kind n; stage = stage n })

  pub others_written : (k : ℕ) → k < max_jobs → k ≢ i → get_or (jobs_laid written) k no_job ≡ get_or (jobs_laid xs) k no_job
  others_written k low other =
      let number = apart (k * 3) (λ e. other (omega arith)) (λ e. omega arith) (λ e. omega arith) in
      let kind = apart (k * 3 + 1) (λ e. omega arith) (λ e. other (omega arith)) (λ e. omega arith) in
      let stage = apart (k * 3 + 2) (λ e. omega arith) (λ e. omega arith) (λ e. other (omega arith)) in
      job_laid written k no_job low ∙ (λ n. record { number = number n; kind = kind n; stage = stage n }) ∙ sym (job_laid xs k no_job low)
