-- What was asked is the value of the first tests; where they pass, the last is the answer.
use Rattle.std.proofs.Common.{ℕ, ◌*◌, ◌-◌, ◌≡◌, ◌≤◌, Bool, true, ◌&&◌, List, [], ◌∷◌, length, take, drop, refl, sym, ap, ◌∙◌, fold, eqb, arith}
use Rattle.std.proofs.Math.ListN.{length-drop}
use Rattle.std.proofs.Math.Seq.{take_all}
use borrow.Author.Tests.{lt-leb, le-leb}
use mathlib.Core.Bool.{and-true, and_assoc}
use Rattle.model.proofs.Lists.{map_take}
use Rattle.model.specs.declared.Job.{Job}
use Rattle.model.specs.Limits.{max_jobs}
use Rattle.model.specs.Numbers.{each}
use Rattle.model.specs.Jobs.{distinct}
use Rattle.events.specs.JobList.{is_no_job}
use Rattle.internals.specs.Internals.{well_formed}
use Rattle.internals.specs.JobNumbers.{list_over, jobs_laid}
use Rattle.internals.proofs.JobsLaid.{beyond_laid}
use Rattle.table_agreement.proofs.well_formed.Goals as goal
use Rattle.table_agreement.proofs.well_formed.Goals.{then-all_zero, else-all_zero}

abbrev number : Job → ℕ
number j = j.number

-- the flag of a fold, with what the entries say
folded : (zero : Bool) (xs : List ℕ) → fold (λ (zero : Bool) (x : ℕ). zero && eqb x 0) zero xs ≡ (zero && each (λ (x : ℕ). eqb x 0) xs)
folded zero [] = sym (and-true zero)
folded zero (x ∷ xs) = folded (zero && eqb x 0) xs ∙ and_assoc zero (eqb x 0) (each (λ (x : ℕ). eqb x 0) xs)

-- that only zeros lie beyond the jobs says that no job does
none_beyond : (xs : List ℕ) (count : ℕ) (zero : Bool) → length xs ≡ 192 → count ≤ max_jobs
    → zero ≡ fold (λ (zero : Bool) (x : ℕ). zero && eqb x 0) true (take (192 - count * 3) (drop (count * 3) xs)) → each is_no_job (drop count (jobs_laid xs)) ≡ zero
none_beyond xs count zero long few e =
    let rest = take_all (192 - count * 3) (drop (count * 3) xs) (omega (arith, length-drop (count * 3) xs)) in
    beyond_laid xs count few long ∙ sym (e ∙ folded true (take (192 - count * 3) (drop (count * 3) xs)) ∙ ap (each (λ (x : ℕ). eqb x 0)) rest)

pub returns-then-jobs-gt64 : goal.returns-then-jobs-gt64
unfolding well_formed
returns-then-jobs-gt64 c = rw (lt-leb c.args.jobs.count max_jobs c.if-jobs-gt64.true) refl

pub returns-then-jobs_fit : goal.returns-then-jobs_fit
unfolding well_formed
returns-then-jobs_fit c =
    let a = c.args in
    let t = list_over a.jobs.count a.jobs.numbers.now in
    let few = c.if-jobs-gt64.false in
    let beyond = none_beyond a.jobs.numbers.now a.jobs.count _ (omega arith) few c.all_zero.ensures in
    let named = ap (take a.jobs.count) c.numbers_of.ensures ∙ map_take number a.jobs.count t.jobs in
    elim c.if-all_zero.branch [
      | then-all_zero w ↦
          rw (le-leb a.jobs.count max_jobs few, beyond ∙ w.if-all_zero.true, sym w.jobs_fit.ensures ∙ sym w.value-is ∙ c.if-jobs_fit.true)
          (c.all_distinct.ensures ∙ ap distinct named)
      | else-all_zero w ↦ cc
    ]

pub returns-else-jobs_fit : goal.returns-else-jobs_fit
unfolding well_formed
returns-else-jobs_fit c =
    let a = c.args in
    let few = c.if-jobs-gt64.false in
    let beyond = none_beyond a.jobs.numbers.now a.jobs.count _ (omega arith) few c.all_zero.ensures in
    elim c.if-all_zero.branch [
      | then-all_zero w ↦ rw (le-leb a.jobs.count max_jobs few, beyond ∙ w.if-all_zero.true, sym w.jobs_fit.ensures ∙ sym w.value-is ∙ c.if-jobs_fit.false) c.if-jobs_fit.false
      | else-all_zero w ↦ rw (le-leb a.jobs.count max_jobs few, beyond ∙ w.if-all_zero.false) c.if-jobs_fit.false
    ]
