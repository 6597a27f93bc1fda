-- The position of a job, as the code finds it, names what the definitions name: the job with the number, and the lists after
-- its advance and its removal.
use Prim.Native.Nat.{ℕ, suc, ◌+◌, ◌≤◌, ◌<◌, min}
use native.Mathlib.Omega.{arith}
use Rattle.std.specs.Prelude.{Option, Some, None, is_none}
use mathlib.Core.Bool.{Bool, true, false, cond, not, ◌||◌, false≢true}
use mathlib.Core.List.{List, [], ◌∷◌, ◌++◌}
use mathlib.Core.Path.{◌≡◌, refl, sym, ap, ◌∙◌}
use borrow.Author.Tests.{ltb-true, ltb-false, lt-ltb, le-ltb, eq-eqb, ne_eqb}
use lib.Dec.{ltb}
use lib.ListN.{length, take, drop, set, get_or, length-take, drop_of_length-le}
use lib.Seq.{drop-cons}
use Rattle.model.specs.Limits.{max_jobs}
use Rattle.model.specs.Jobs.{no_job, has_number, is_active, job_of, advanced_job, advanced, removed}
use Rattle.model.specs.declared.Plan.{Plan}
use Rattle.model.specs.declared.Job.{Job}
use Rattle.events.specs.JobList.{jobs_of}
use Rattle.events.specs.declared.JobList.{JobList}
use Rattle.internals.specs.Internals.{position_of, found_in}
use Rattle.internals.specs.declared.Found.{Found}

ltb_suc : (a b : ℕ) → ltb (suc a) (suc b) ≡ ltb a b
ltb_suc a b = go (ltb a b) refl
  where
    go : (c : Bool) → ltb a b ≡ c → ltb (suc a) (suc b) ≡ c
    go true e = let h = ltb-true a b e in lt-ltb (suc a) (suc b) (omega arith)
    go false e = let h = ltb-false a b e in le-ltb (suc a) (suc b) (omega arith)

-- the position where the first of the jobs has the number, and where it has not and the position among the others is i
abbrev here_or_later : Bool → ℕ → ℕ
here_or_later b i = cond b 0 (suc i)

module _ (n : ℕ) where
  -- what holds of a job with the number and of one without holds of any
  by_number : (j : Job) (P : Bool → Type 0) → P true → P false → P (has_number n j)
  by_number j P has lacks = go (has_number n j)
    where
      go : (b : Bool) → P b
      go true = has
      go false = lacks

  pub position_active : (js : List Job) → is_active n js ≡ ltb (position_of n js) (length js)
  position_active [] = refl
  position_active (j ∷ js) =
      by_number j (λ b. (b || is_active n js) ≡ ltb (here_or_later b (position_of n js)) (suc (length js)))
      (sym (lt-ltb 0 (suc (length js)) (omega arith)))
      (position_active js ∙ sym (ltb_suc (position_of n js) (length js)))

  pub position_job : (js : List Job) → job_of n js ≡ get_or js (position_of n js) no_job
  position_job [] = refl
  position_job (j ∷ js) =
      by_number j (λ b. cond b j (job_of n js) ≡ get_or (j ∷ js) (here_or_later b (position_of n js)) no_job) refl (position_job js)

  -- the list with the job at a position advanced, and without it
  abbrev advanced_from : Plan → List Job → ℕ → List Job
  advanced_from p js i = set js i (advanced_job p (get_or js i no_job))

  abbrev without : List Job → ℕ → List Job
  without js i = take i js ++ drop (suc i) js

  pub position_advanced : (p : Plan) (js : List Job) → advanced p n js ≡ advanced_from p js (position_of n js)
  position_advanced p [] = refl
  position_advanced p (j ∷ js) =
      by_number j
      (λ b. cond b (advanced_job p j ∷ js) (j ∷ advanced p n js) ≡ advanced_from p (j ∷ js) (here_or_later b (position_of n js)))
      refl
      (ap (λ (is : List Job). j ∷ is) (position_advanced p js))

  pub position_removed : (js : List Job) → removed n js ≡ without js (position_of n js)
  position_removed [] = refl
  position_removed (j ∷ js) =
      by_number j (λ b. cond b js (j ∷ removed n js) ≡ without (j ∷ js) (here_or_later b (position_of n js))) refl
      (ap (λ (is : List Job). j ∷ is) (position_removed js))

  -- what a search finds, if the number is active: the job that stands at the position
  abbrev pub standing : List Job → Found
  standing js = record { at = position_of n js; job = job_of n js }

  pub found_active : (js : List Job) → is_none (found_in n js) ≡ not (is_active n js)
  found_active js = go (is_active n js)
    where
      go : (b : Bool) → is_none (cond b (Some (standing js)) None) ≡ not b
      go true = refl
      go false = refl

  -- and where it is not, no job has it
  inactive : (js : List Job) → is_active n js ≡ false → no_job ≡ job_of n js
  inactive [] h = refl
  inactive (j ∷ js) h = go (has_number n j) (inactive js) h
    where
      go : (b : Bool) → (is_active n js ≡ false → no_job ≡ job_of n js) → (b || is_active n js) ≡ false → no_job ≡ cond b j (job_of n js)
      go true later k = absurd (false≢true (sym k))
      go false later k = later k

  pub found_no_job : (js : List Job) → found_in n js ≡ None → no_job ≡ job_of n js
  found_no_job js h = inactive js (go (is_active n js) (sym (found_active js) ∙ ap (λ (o : Option Found). is_none o) h))
    where
      go : (b : Bool) → not b ≡ true → b ≡ false
      go true e = absurd (false≢true e)
      go false e = refl

  -- the search among jobs of which the first has this position
  abbrev pub found_from : ℕ → List Job → Option Found
  found_from i [] = None
  found_from i (j ∷ js) = cond (has_number n j) (Some (record { at = i; job = j })) (found_from (i + 1) js)

  abbrev standing_at : Bool → ℕ → Job → Option Found
  standing_at active at j = cond active (Some (record { at = at; job = j })) None

  from_position : (i : ℕ) (js : List Job) → found_from i js ≡ standing_at (is_active n js) (i + position_of n js) (job_of n js)
  from_position i [] = refl
  from_position i (j ∷ js) =
      by_number j
      (λ b. cond b (Some (record { at = i; job = j })) (found_from (i + 1) js)
      ≡ standing_at (b || is_active n js) (i + here_or_later b (position_of n js)) (cond b j (job_of n js)))
      (ap (λ at. standing_at true at j) here)
      (from_position (i + 1) js ∙ ap (λ at. standing_at (is_active n js) at (job_of n js)) later)
    where
      here : i ≡ i + 0
      here = omega arith

      later : i + 1 + position_of n js ≡ i + suc (position_of n js)
      later = omega arith

  pub found_start : (js : List Job) → found_in n js ≡ found_from 0 js
  found_start js = let at : position_of n js ≡ 0 + position_of n js = omega arith in ap (λ at. standing_at (is_active n js) at (job_of n js)) at ∙ sym (from_position 0 js)

  module _ (js : List Job) (i : ℕ) where
    -- at the job that stands there
    module _ (j : Job) (low : i < length js) (there : get_or js i no_job ≡ j) where
      go_on : found_from i (drop i js) ≡ cond (has_number n j) (Some (record { at = i; job = j })) (found_from (i + 1) (drop (i + 1) js))
      go_on =
          let next : suc i ≡ i + 1 = omega arith in
          rw (drop-cons js i no_job low, there) (ap (λ m. cond (has_number n j) (Some (record { at = i; job = j })) (found_from (i + 1) (drop m js))) next)

      pub found_here : j.number ≡ n → found_from i (drop i js) ≡ Some (record { at = i; job = j })
      found_here e = go_on ∙ rw (eq-eqb j.number n e) refl

      pub found_later : (¬ (j.number ≡ n)) → found_from i (drop i js) ≡ found_from (i + 1) (drop (i + 1) js)
      found_later e = go_on ∙ rw (ne_eqb j.number n e) refl

    pub found_none : length js ≤ i → found_from i (drop i js) ≡ None
    found_none h = rw (drop_of_length-le js {i = i}) refl

-- as many jobs as the count says, where there are slots for them
pub jobs_there : (t : JobList) → length t.jobs ≡ max_jobs → length (jobs_of t) ≡ min t.count max_jobs
jobs_there t whole = rw (← whole) (length-take t.count t.jobs)
