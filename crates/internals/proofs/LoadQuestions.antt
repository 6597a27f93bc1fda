-- A load: its refusals up to question 16, and what is answered once those are met.
use Prim.Native.Nat.{ℕ, ◌<◌}
use native.Mathlib.Omega.{arith}
use mathlib.Core.Bool.{Bool, true, false, cond, not, false≢true}
use mathlib.Core.List.{List, [], ◌∷◌}
use mathlib.Core.Path.{◌≡◌, refl, sym, ap, ◌∙◌}
use Rattle.std.specs.Prelude.{Err}
use lib.Dec.{ltb}
use lib.ListN.{length, length-take}
use Rattle.model.specs.Limits.{max_number, max_jobs}
use Rattle.model.specs.Numbers.{InRange, in_range}
use Rattle.model.specs.Plan.{no_stage, stage_of}
use Rattle.model.specs.Jobs.{is_active, loaded_job, loaded, exceeded, broken}
use Rattle.model.specs.Questions.{Question, ask, answer_of}
use Rattle.model.specs.Soundness.{Sound}
use Rattle.model.specs.declared.Plan.{Plan}
use Rattle.model.specs.declared.Stage.{Stage}
use Rattle.model.specs.declared.Job.{Job}
use Rattle.model.proofs.Decide.{Decides, holding, failing, decides_range, decides_lt}
use Rattle.events.specs.JobList.{jobs_of, Agrees}
use Rattle.events.specs.Events.{is_admitted, load_questions, kept_questions, kept_answer, agreement, answer}
use Rattle.events.specs.declared.JobList.{JobList}
use Rattle.events.specs.declared.Event.TheVariants.{Load}
use Rattle.events.specs.declared.Answer.{Answer}
use Rattle.events.specs.declared.Answer.TheVariants.{Admitted, BadNumber, WrongActivity, UnknownType, Full}
use Rattle.internals.specs.Internals.{sums_of, ceilings_of, unless_refused, kept_after, found_in, load_answer}
use Rattle.internals.specs.JobNumbers.{Judges}
use Rattle.internals.proofs.Positions.{found_active}
use Rattle.internals.proofs.ListChanges.{count_is}
use Rattle.internals.proofs.SumsAfter.{added_exchanged, kept_exchanged}
use Rattle.internals.proofs.QuestionParts.{Refusing, agreement_holds, first_met, met_part, refused_as, judged_error, entry_refused}

-- questions 11 to 16 of a load are met
pub record Loads (p : Plan) (t : JobList) (n k : ℕ) : Type 0 where
  pub sound : Sound p
  pub agrees : Agrees p t
  pub type : InRange k p.types
  pub room : t.count < max_jobs
  pub answers : answer p t (Load n k) ≡ kept_answer (exceeded p (loaded n k (jobs_of t))) (broken p (loaded n k (jobs_of t)))

own_holds : (types : ℕ) (js : List Job) (n k : ℕ) → is_admitted (answer_of Admitted (load_questions types js n k)) ≡ true → InRange k types × (length js < max_jobs)
own_holds types js n k h = go (in_range n max_number) (not (is_active n js)) (decides_range k types) (decides_lt (length js) max_jobs) h
  where
    go : (a b : Bool) {c d : Bool} → Decides (InRange k types) c → Decides (length js < max_jobs) d
        → is_admitted (cond a (cond b (cond c (cond d Admitted Full) UnknownType) WrongActivity) BadNumber) ≡ true → InRange k types × (length js < max_jobs)
    go true true (holding i) (holding l) e = (i, l)
    go true true (holding i) (failing l) e = absurd (false≢true e)
    go true true (failing i) d e = absurd (false≢true e)
    go true false i d e = absurd (false≢true e)
    go false b i d e = absurd (false≢true e)

module _ (p : Plan) (t : JobList) (n k : ℕ) where
  abbrev own : List (Question Answer)
  own = load_questions p.types (jobs_of t) n k

  refusing : Refusing own
  refusing = (refl, (refl, (refl, (refl, tt))))

  -- the questions with the number not active or active, and so many jobs
  abbrev further : Bool → ℕ → Answer
  further inactive count =
      answer_of Admitted
      (ask (in_range n max_number) BadNumber
      ∷ ask inactive WrongActivity
      ∷ ask (in_range k p.types) UnknownType
      ∷ ask (ltb count max_jobs) Full
      ∷ [])

  -- what is asked by what the code has at hand, where questions 11 and 12 are met
  module _ (met : is_admitted (agreement p t) ≡ true) where
    asked : load_answer t.count (found_in n (jobs_of t)) p.types n k ≡ answer_of Admitted own
    unfolding load_answer
    asked =
        ap (λ (b : Bool). further b t.count) (found_active n (jobs_of t))
        ∙ ap (further (not (is_active n (jobs_of t)))) (count_is p t (agreement_holds p t met).1)

    pub load_refused : {A : Type 0} (x : A) {r : Answer} → unless_refused (load_answer t.count (found_in n (jobs_of t)) p.types n k) x ≡ Err r
        → Judges p t (Load n k) (Err r)
    load_refused x h =
        let refused = refused_as _ x h in
        let other = ap is_admitted (sym refused.1) ∙ refused.0 in
        judged_error p t (Load n k) _ other
        (entry_refused p t (Load n k) own (kept_questions p (loaded n k (jobs_of t))) refl refusing (agreement p t) _ refl (sym refused.1 ∙ asked ∙ rw met refl) other)

    pub load_goes : is_admitted (load_answer t.count (found_in n (jobs_of t)) p.types n k) ≡ true → Loads p t n k
    unfolding kept_answer
    load_goes h =
        let rest = kept_questions p (loaded n k (jobs_of t)) in
        let both = agreement_holds p t met in
        let own_met : is_admitted (answer_of Admitted own) ≡ true = ap is_admitted (sym asked) ∙ h in
        let named = own_holds p.types (jobs_of t) n k own_met in
        record {
          sound = both.0;
          agrees = both.1;
          type = named.0;
          room = omega (arith, named.1, length-take t.count t.jobs, both.1.slots, both.1.few);
          answers = first_met p t (Load n k) met ∙ met_part own rest refusing own_met;
        }

-- 18 and 19 of a load, by the sums with nothing exchanged for its first stage
pub load_kept : {p : Plan} {t : JobList} {n k : ℕ} → Loads p t n k → (new : Stage) → new ≡ stage_of p k 1
    → answer p t (Load n k) ≡ kept_after (sums_of p (jobs_of t)) no_stage new (ceilings_of p)
load_kept {p} {t} {n} {k} l new stage =
    let js = jobs_of t in
    l.answers ∙ sym (kept_exchanged p l.sound js (loaded n k js) no_stage new (added_exchanged p js (loaded_job n k) new stage))
