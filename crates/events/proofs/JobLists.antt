-- A table that agrees with a plan is the table of its jobs, so what is proved of lists of jobs holds of tables.
use Prim.Native.Nat.{ℕ, zero, suc, ◌+◌, ◌-◌, ◌≤◌, ◌<◌}
use native.Mathlib.Omega.{arith}
use mathlib.Core.List.{List, [], ◌∷◌, ◌++◌}
use mathlib.Core.Path.{◌≡◌, refl, sym, ap, ◌∙◌}
use lib.ListN.{length, drop, replicate, get_or, length-append, length-drop, length-replicate, take-append-drop}
use lib.Seq.{take-append_seam, length-take-le, ext_get_or, get_or-drop}
use Rattle.model.specs.Limits.{max_jobs}
use Rattle.model.specs.Numbers.{entry}
use Rattle.model.specs.Jobs.{no_job, Agreeing}
use Rattle.model.specs.declared.Plan.{Plan}
use Rattle.model.specs.declared.Job.{Job}
use Rattle.model.proofs.Decide.{Decides, decides_iff, ◌and◌, decides_le, decides_eq, decides_beyond}
use Rattle.model.proofs.Lists.{replicated}
use Rattle.model.proofs.Jobs.{decides_agreeing}
use Rattle.events.specs.JobList.{jobs_of, list_of, Agrees, is_no_job, agrees}
use Rattle.events.specs.declared.JobList.{JobList}

pub jobs_of_list : (js : List Job) → jobs_of (list_of js) ≡ js
unfolding list_of
jobs_of_list js = take-append_seam js (replicate (max_jobs - length js) no_job)

-- a list filled up with an entry holds nothing else beyond its own entries
filled : {A : Type 0} (xs : List A) (n i : ℕ) (d : A) → length xs ≤ i → get_or (xs ++ replicate n d) i d ≡ d
filled [] n i d h = replicated n i d
filled (x ∷ xs) n zero d h = absurd (omega arith)
filled (x ∷ xs) n (suc i) d h = filled xs n i d (omega arith)

unfilled : {A : Type 0} (xs : List A) (n : ℕ) (d : A) → ((i : ℕ) → n < i → entry xs i d ≡ d) → drop n xs ≡ replicate (length xs - n) d
unfilled xs n d h =
    ext_get_or d (drop n xs) (replicate (length xs - n) d) (length-drop n xs ∙ sym (length-replicate (length xs - n) d))
    (λ i k. get_or-drop n xs i d ∙ h (suc (n + i)) (omega arith) ∙ sym (replicated (length xs - n) i d))

pub agreeing_list : (p : Plan) (js : List Job) → length js ≤ max_jobs → Agreeing p js → Agrees p (list_of js)
unfolding list_of
agreeing_list p js few h =
    record {
      slots = length-append js (replicate (max_jobs - length js) no_job) ∙ omega (arith, length-replicate (max_jobs - length js) no_job);
      few = few;
      zeros = beyond;
      jobs = rw (take-append_seam js (replicate (max_jobs - length js) no_job)) h;
    }
  where
    beyond : (i : ℕ) → length js < i → entry (js ++ replicate (max_jobs - length js) no_job) i no_job ≡ no_job
    beyond zero k = absurd (omega arith)
    beyond (suc i) k = filled js (max_jobs - length js) i no_job (omega arith)

pub list_of_jobs : (p : Plan) (t : JobList) → Agrees p t → t ≡ list_of (jobs_of t)
unfolding list_of
list_of_jobs p t h = λ i. record { count = count i; jobs = jobs i }
  where
    count : t.count ≡ length (jobs_of t)
    count = sym (length-take-le t.count t.jobs (omega (arith, h.few, h.slots)))

    jobs : t.jobs ≡ jobs_of t ++ replicate (max_jobs - length (jobs_of t)) no_job
    jobs =
        let room : length t.jobs - t.count ≡ max_jobs - length (jobs_of t) = omega (arith, h.slots, count) in
        sym (take-append-drop t.count t.jobs)
        ∙ ap (λ (rest : List Job). jobs_of t ++ rest) (unfilled t.jobs t.count no_job h.zeros ∙ ap (λ (n : ℕ). replicate n no_job) room)

-- the test decides agreement
pub decides_no_job : (j : Job) → Decides (j ≡ no_job) (is_no_job j)
decides_no_job j =
    decides_iff (λ h. λ i. record { number = h.0.0 i; kind = h.0.1 i; stage = h.1 i })
    (λ e. ((ap (λ (j : Job). j.number) e, ap (λ (j : Job). j.kind) e), ap (λ (j : Job). j.stage) e))
    (decides_eq j.number 0 and decides_eq j.kind 0 and decides_eq j.stage 0)

pub decides_agrees : (p : Plan) (t : JobList) → Decides (Agrees p t) (agrees p t)
unfolding agrees
decides_agrees p t =
    decides_iff (λ h. record { slots = h.0.0.0; few = h.0.0.1; zeros = h.0.1; jobs = h.1 })
    (λ h. (((h.slots, h.few), h.zeros), h.jobs))
    (decides_eq (length t.jobs) max_jobs
    and decides_le t.count max_jobs
    and decides_beyond decides_no_job no_job refl t.count t.jobs
    and decides_agreeing p (jobs_of t))
