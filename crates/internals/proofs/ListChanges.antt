-- The job lists that the code makes are those of the jobs that the events lead to: in an agreeing list the slots beyond the
-- jobs are empty, so a job written behind the others, in the stead of one, or a gap closed, changes the jobs alone.
use Prim.Native.Nat.{ℕ, suc, ◌+◌, ◌-◌, ◌<◌}
use native.Mathlib.Numerals.{add-one}
use native.Mathlib.Omega.{arith}
use mathlib.Core.Bool.{true}
use mathlib.Core.List.{List, [], ◌∷◌, ◌++◌, append_assoc}
use mathlib.Core.Path.{◌≡◌, sym, ap, ◌∙◌}
use borrow.Author.Tests.{ltb-true, lt-ltb, le-leb}
use lib.ListN.{length, take, drop, set, replicate, length-append, length-take, length-drop, length-set, replicate-append-replicate}
use lib.Seq.{length-take-le, set_at, set-append_left, take-append-le, drop-append-le}
use Rattle.model.specs.Limits.{max_jobs}
use Rattle.model.specs.Jobs.{no_job, is_active, job_of, advanced_job, advanced, removed}
use Rattle.model.specs.declared.Plan.{Plan}
use Rattle.model.specs.declared.Job.{Job}
use Rattle.events.specs.JobList.{jobs_of, list_of, Agrees}
use Rattle.events.specs.declared.JobList.{JobList}
use Rattle.events.proofs.JobLists.{list_of_jobs}
use Rattle.internals.specs.Internals.{position_of, with_job, with_replaced, without_job}
use Rattle.internals.proofs.Positions.{position_active, position_job, position_advanced, position_removed}

-- a job list with the count and the slots of these jobs is theirs
list_is : (t : JobList) (js : List Job) → t.count ≡ length js → t.jobs ≡ js ++ replicate (max_jobs - length js) no_job → t ≡ list_of js
unfolding list_of
list_is t js count jobs = λ i. record { count = count i; jobs = jobs i }

module _ (p : Plan) (t : JobList) (agrees : Agrees p t) where
  pub count_is : t.count ≡ length (jobs_of t)
  count_is = sym (length-take-le t.count t.jobs (omega (arith, agrees.few, agrees.slots)))

  jobs_are : t.jobs ≡ jobs_of t ++ replicate (max_jobs - length (jobs_of t)) no_job
  unfolding list_of
  jobs_are = ap (λ (u : JobList). u.jobs) (list_of_jobs p t agrees)

  pub added_list : (j : Job) → t.count < max_jobs → with_job t j ≡ list_of (jobs_of t ++ j ∷ [])
  unfolding with_job
  added_list j room =
      let js = jobs_of t in
      let long : length (js ++ j ∷ []) ≡ length js + 1 = length-append js (j ∷ []) in
      let empty = replicate (max_jobs - length (js ++ j ∷ [])) no_job in
      let more : max_jobs - length js ≡ suc (max_jobs - length (js ++ j ∷ [])) = omega (arith, count_is) in
      let slots : t.jobs ≡ js ++ no_job ∷ empty = jobs_are ∙ ap (λ n. js ++ replicate n no_job) more in
      let written : set t.jobs t.count j ≡ js ++ j ∷ empty =
      ap (λ is. set is t.count j) slots ∙ set_at js no_job empty j t.count (sym count_is)
      in
      let added : set t.jobs t.count j ≡ (js ++ j ∷ []) ++ empty = written ∙ sym (append_assoc js (j ∷ []) empty) in
      rw (lt-ltb t.count max_jobs room)
      (list_is (record { count = t.count + 1; jobs = set t.jobs t.count j }) (js ++ j ∷ []) (omega (arith, count_is)) added)

  pub replaced_list : (i : ℕ) (j : Job) → i < t.count → with_replaced t i j ≡ list_of (set (jobs_of t) i j)
  unfolding with_replaced
  replaced_list i j low =
      let js = jobs_of t in
      let long : length (set js i j) ≡ length js = length-set js i j in
      let empty = replicate (max_jobs - length js) no_job in
      let written : set t.jobs i j ≡ set js i j ++ empty =
      ap (λ is. set is i j) jobs_are ∙ set-append_left js empty i j (omega (arith, count_is))
      in
      list_is (record { count = t.count; jobs = set t.jobs i j }) (set js i j) (count_is ∙ sym long)
      (written ∙ ap (λ n. set js i j ++ replicate (max_jobs - n) no_job) (sym long))

  closed_list : (i : ℕ) → i < t.count → without_job t i ≡ list_of (take i (jobs_of t) ++ drop (suc i) (jobs_of t))
  unfolding without_job
  closed_list i low =
      let js = jobs_of t in
      let left = take i js ++ drop (suc i) js in
      let empty = replicate (max_jobs - length js) no_job in
      let long : length left ≡ length js - 1 =
      length-append (take i js) (drop (suc i) js) ∙ omega (arith, length-take i js, length-drop (suc i) js, count_is)
      in
      let more : max_jobs - length left ≡ (max_jobs - length js) + 1 = omega (arith, count_is, agrees.few) in
      let front : take i t.jobs ≡ take i js = ap (take i) jobs_are ∙ take-append-le i js empty (omega (arith, count_is)) in
      let back : drop (i + 1) t.jobs ≡ drop (suc i) js ++ empty =
      rw add-one (ap (drop (suc i)) jobs_are ∙ drop-append-le (suc i) js empty (omega (arith, count_is)))
      in
      let filled : replicate (max_jobs - length left) no_job ≡ empty ++ no_job ∷ [] =
      ap (λ n. replicate n no_job) more ∙ sym (replicate-append-replicate (max_jobs - length js) 1 no_job)
      in
      let slots = take i t.jobs ++ drop (i + 1) t.jobs ++ no_job ∷ [] in
      let shifted : slots ≡ left ++ replicate (max_jobs - length left) no_job = rw (front, back, filled) (simp append_assoc) in
      rw (lt-ltb i t.count low, le-leb t.count max_jobs agrees.few)
      (list_is (record { count = t.count - 1; jobs = slots }) left (omega (arith, count_is)) shifted)

  -- by the number of an active job
  module _ (n : ℕ) (active : is_active n (jobs_of t) ≡ true) where
    pub position_below : position_of n (jobs_of t) < t.count
    position_below =
        omega (arith, ltb-true (position_of n (jobs_of t)) (length (jobs_of t)) (sym (position_active n (jobs_of t)) ∙ active), count_is)

    pub advanced_list : with_replaced t (position_of n (jobs_of t)) (advanced_job p (job_of n (jobs_of t))) ≡ list_of (advanced p n (jobs_of t))
    advanced_list =
        let js = jobs_of t in
        replaced_list (position_of n js) (advanced_job p (job_of n js)) position_below
        ∙ ap (λ (j : Job). list_of (set js (position_of n js) (advanced_job p j))) (position_job n js)
        ∙ ap list_of (sym (position_advanced n p js))

    pub removed_list : without_job t (position_of n (jobs_of t)) ≡ list_of (removed n (jobs_of t))
    removed_list = closed_list (position_of n (jobs_of t)) position_below ∙ ap list_of (sym (position_removed n (jobs_of t)))
