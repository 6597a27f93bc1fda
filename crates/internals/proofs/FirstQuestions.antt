-- The first two questions as the code asks them: soundness, what needs no sums, and then the sums against their ceilings;
-- what is handed on is what the definition says.
use Prim.Native.Nat.{ℕ}
use Rattle.std.specs.Prelude.{Ok, Err}
use mathlib.Core.Bool.{Bool, true, false, cond, ◌&&◌, and_assoc}
use mathlib.Core.Path.{◌≡◌, refl, sym, ap, ◌∙◌}
use lib.Dec.{eqb}
use lib.ListN.{length}
use borrow.Author.Tests.{eq-eqb}
use Rattle.model.specs.Limits.{max_jobs}
use Rattle.model.specs.Plan.{no_stage}
use Rattle.model.specs.Jobs.{exceeded, broken, agreeing}
use Rattle.model.specs.Soundness.{Sound, sound}
use Rattle.model.specs.declared.Plan.{Plan}
use Rattle.model.proofs.Decide.{passes}
use Rattle.model.proofs.Soundness.{decides_sound}
use Rattle.events.specs.JobList.{jobs_of, agrees}
use Rattle.events.specs.Events.{agreement, is_admitted, kept_answer}
use Rattle.events.specs.declared.Event.{Event}
use Rattle.events.specs.declared.JobList.{JobList}
use Rattle.events.specs.declared.Answer.{Answer}
use Rattle.events.specs.declared.Answer.TheVariants.{Admitted, UnsoundPlan, Disagreement, OverCapacity, RowBroken}
use Rattle.internals.specs.Internals.{sums_of, ceilings_of, kept_after, well_formed, agreed}
use Rattle.internals.specs.JobNumbers.{Judges}
use Rattle.internals.specs.declared.Agreed.{Agreed}
use Rattle.internals.proofs.QuestionParts.{first_refused, refused_outcome, judged_error, handed_on, refused_as}
use Rattle.internals.proofs.SumsAfter.{none_exchanged, kept_exchanged}

-- agreement in the parts that the code asks it in
module _ (p : Plan) (t : JobList) where
  agrees_by_parts : length t.jobs ≡ max_jobs
      → agrees p t ≡ (well_formed p.types p.lengths t && (eqb (exceeded p (jobs_of t)) 0 && eqb (broken p (jobs_of t)) 0))
  unfolding agrees agreeing well_formed
  agrees_by_parts whole = rw (eq-eqb (length t.jobs) max_jobs whole) (simp and_assoc)

-- the last two questions are met where no resource is exceeded and no row broken
kept_admitted : (resource row : ℕ) → is_admitted (kept_answer resource row) ≡ (eqb resource 0 && eqb row 0)
unfolding kept_answer
kept_admitted resource row = go (eqb resource 0) (eqb row 0)
  where
    go : (a b : Bool) → is_admitted (cond a (cond b Admitted (RowBroken row)) (OverCapacity resource)) ≡ (a && b)
    go true true = refl
    go true false = refl
    go false b = refl

module _ (p : Plan) (t : JobList) where
  -- what is handed on where they are met
  abbrev pub at_hand : Agreed
  at_hand = record { sums = sums_of p (jobs_of t); ceilings = ceilings_of p }

  agreed_refused : (a : Answer) → is_admitted a ≡ false → agreement p t ≡ a → agreed p t ≡ Err a
  unfolding agreed
  agreed_refused a refused e = rw (e, refused) refl

  pub agreed_met : agreement p t ≡ Admitted → agreed p t ≡ Ok at_hand
  unfolding agreed
  agreed_met e = rw e refl

  -- what was handed on is that, and what was refused is the answer to each event
  pub agreed_holds : {g : Agreed} → agreed p t ≡ Ok g → (is_admitted (agreement p t) ≡ true) × (at_hand ≡ g)
  unfolding agreed
  agreed_holds h = handed_on (agreement p t) at_hand h

  pub agreed_fails : {r : Answer} → agreed p t ≡ Err r → (is_admitted (agreement p t) ≡ false) × (agreement p t ≡ r)
  unfolding agreed
  agreed_fails h = refused_as (agreement p t) at_hand h

  pub agreed_judges : (e : Event) {r : Answer} → agreed p t ≡ Err r → Judges p t e (Err r)
  agreed_judges e h =
      let fails = agreed_fails h in
      let refused = ap is_admitted (sym fails.1) ∙ fails.0 in
      judged_error p t e _ refused (refused_outcome p t e _ (first_refused p t e fails.0 ∙ fails.1) refused)

  pub agreed_unsound : sound p ≡ false → agreed p t ≡ Err UnsoundPlan
  unfolding agreement
  agreed_unsound h = agreed_refused UnsoundPlan refl (rw h refl)

  -- 18 and 19 of the list as it is, by its sums
  abbrev pub kept_now : Answer
  kept_now = kept_after (sums_of p (jobs_of t)) no_stage no_stage (ceilings_of p)

  module _ (plan : Sound p) where
    disagreeing : agrees p t ≡ false → agreed p t ≡ Err Disagreement
    unfolding agreement
    disagreeing h = agreed_refused Disagreement refl (rw (passes (decides_sound p) plan, h) refl)

    module _ (whole : length t.jobs ≡ max_jobs) where
      pub agreed_unformed : well_formed p.types p.lengths t ≡ false → agreed p t ≡ Err Disagreement
      agreed_unformed h = disagreeing (agrees_by_parts p t whole ∙ rw h refl)

      module _ (formed : well_formed p.types p.lengths t ≡ true) where
        by_sums : agrees p t ≡ is_admitted kept_now
        by_sums =
            agrees_by_parts p t whole
            ∙ rw formed (sym (kept_admitted (exceeded p (jobs_of t)) (broken p (jobs_of t))))
            ∙ ap is_admitted (sym (kept_exchanged p plan (jobs_of t) (jobs_of t) no_stage no_stage (none_exchanged p (jobs_of t))))

        pub agreed_exceeded : is_admitted kept_now ≡ false → agreed p t ≡ Err Disagreement
        agreed_exceeded h = disagreeing (by_sums ∙ h)

        pub agreed_kept : is_admitted kept_now ≡ true → agreed p t ≡ Ok at_hand
        unfolding agreement
        agreed_kept h = agreed_met (rw (passes (decides_sound p) plan, by_sums, h) refl)
