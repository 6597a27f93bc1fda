-- Questions asked in parts: a list of questions answers as its first part does where that refuses, and else as the rest
-- does. So an entrance may ask an event's questions group by group and return at the first refusal.
use Prim.Native.Nat.{ℕ}
use mathlib.Core.Bool.{Bool, true, false, cond, false≢true}
use mathlib.Core.List.{List, [], ◌∷◌, ◌++◌}
use mathlib.Core.Logic.{⊎_elim}
use mathlib.Core.Path.{◌≡◌, refl, sym, ap, ◌∙◌}
use Rattle.std.specs.Prelude.{Result, Ok, Err, is_ok}
use Rattle.std.specs.Result.{result_unwrap_or, IsErrAnd}
use Rattle.model.specs.Limits.{max_number}
use Rattle.model.specs.Numbers.{in_range, Each}
use Rattle.model.specs.Jobs.{is_active}
use Rattle.model.specs.Questions.{Question, answer_of}
use Rattle.model.specs.Soundness.{Sound}
use Rattle.model.specs.declared.Plan.{Plan}
use Rattle.model.specs.declared.Job.{Job}
use Rattle.model.proofs.Decide.{Decides, holding, failing, passes}
use Rattle.model.proofs.Soundness.{decides_sound}
use Rattle.events.specs.JobList.{jobs_of, list_of, Agrees}
use Rattle.events.specs.Events.{is_admitted, first_questions, name_questions, own_questions, agreement, answer, list_after, list_outcome, jobs_after}
use Rattle.events.specs.declared.JobList.{JobList}
use Rattle.events.specs.declared.Event.{Event}
use Rattle.events.specs.declared.ListOutcome.{ListOutcome}
use Rattle.events.specs.declared.Answer.{Answer}
use Rattle.events.specs.declared.Answer.TheVariants.{Admitted, UnsoundPlan, Disagreement, BadNumber, WrongActivity}
use Rattle.internals.specs.Internals.{unless_refused}
use Rattle.internals.specs.JobNumbers.{changed_by, applied, Judges}
use Rattle.internals.specs.declared.Change.{Change}
use Rattle.events.proofs.JobLists.{decides_agrees}
use Rattle.events.proofs.Answers.{admitted_or_not}

-- no refusal of these questions is the acceptance
abbrev pub Refusing : List (Question Answer) → Type 0
Refusing qs = Each (λ (q : Question Answer). is_admitted q.refusal ≡ false) qs

-- the answer of further questions where the first are met
abbrev continued : Answer → Answer → Answer
continued first further = cond (is_admitted first) further first

in_parts : (qs rs : List (Question Answer)) → Refusing qs → answer_of Admitted (qs ++ rs) ≡ continued (answer_of Admitted qs) (answer_of Admitted rs)
in_parts [] rs h = refl
in_parts (q ∷ qs) rs h = go (in_parts qs rs h.1) q.met
  where
    go : answer_of Admitted (qs ++ rs) ≡ continued (answer_of Admitted qs) (answer_of Admitted rs)
        → (b : Bool) → cond b (answer_of Admitted (qs ++ rs)) q.refusal ≡ continued (cond b (answer_of Admitted qs) q.refusal) (answer_of Admitted rs)
    go later true = later
    go later false = rw h.0 refl

module _ (qs rs : List (Question Answer)) (refusing : Refusing qs) where
  refused_part : is_admitted (answer_of Admitted qs) ≡ false → answer_of Admitted (qs ++ rs) ≡ answer_of Admitted qs
  refused_part h = in_parts qs rs refusing ∙ rw h refl

  pub met_part : is_admitted (answer_of Admitted qs) ≡ true → answer_of Admitted (qs ++ rs) ≡ answer_of Admitted rs
  met_part h = in_parts qs rs refusing ∙ rw h refl

pub is_admitted_lem : (a : Answer) → is_admitted a ≡ true → a ≡ Admitted
is_admitted_lem a h = ⊎_elim (λ e. e) (λ (n : is_admitted a ≡ false). absurd (false≢true (sym n ∙ h))) (admitted_or_not a)

abbrev error_or : {A : Type 0} → Answer → Result A Answer → Answer
error_or a (Ok y) = a
error_or a (Err e) = e

-- the refusal that `?` passes on
pub passed_on : {A : Type 0} (r : Result A Answer) {e : Answer} → IsErrAnd r (λ (x : Answer). x ≡ e) → r ≡ Err e
passed_on (Ok x) h = absurd h
passed_on (Err x) h = ap (λ (x : Answer). Err x) h

-- where something was handed on the questions were met, and where there is a refusal it is theirs
module _ {A : Type 0} (a : Answer) (x : A) where
  pub handed_if : is_ok (unless_refused a x) ≡ is_admitted a
  handed_if = go (is_admitted a)
    where
      go : (b : Bool) → is_ok {T = A} {E = Answer} (cond b (Ok x) (Err a)) ≡ b
      go true = refl
      go false = refl

  pub handed_on : {y : A} → unless_refused a x ≡ Ok y → (is_admitted a ≡ true) × (x ≡ y)
  handed_on {y} h = go (is_admitted a) refl h
    where
      go : (b : Bool) → is_admitted a ≡ b → ◌≡◌ {A = Result A Answer} (cond b (Ok x) (Err a)) (Ok y) → (is_admitted a ≡ true) × (x ≡ y)
      go true e k = (e, ap (λ (r : Result A Answer). result_unwrap_or r x) k)
      go false e k = absurd (false≢true (ap is_ok k))

  pub refused_as : {r : Answer} → unless_refused a x ≡ Err r → (is_admitted a ≡ false) × (a ≡ r)
  refused_as {r} h = go (is_admitted a) refl h
    where
      go : (b : Bool) → is_admitted a ≡ b → ◌≡◌ {A = Result A Answer} (cond b (Ok x) (Err a)) (Err r) → (is_admitted a ≡ false) × (a ≡ r)
      go true e k = absurd (false≢true (sym (ap is_ok k)))
      go false e k = (e, ap (λ (r : Result A Answer). error_or a r) k)

module _ (p : Plan) (t : JobList) where
  first_refuses : Refusing (first_questions p t)
  first_refuses = (refl, (refl, tt))

  -- the first two questions are met exactly when the plan is sound and the table agrees with it
  pub agreement_holds : is_admitted (agreement p t) ≡ true → Sound p × Agrees p t
  unfolding agreement
  agreement_holds h = go (decides_sound p) (decides_agrees p t) h
    where
      go : {a b : Bool} → Decides (Sound p) a → Decides (Agrees p t) b
          → is_admitted (cond a (cond b Admitted Disagreement) UnsoundPlan) ≡ true → Sound p × Agrees p t
      go (holding s) (holding k) e = (s, k)
      go (holding s) (failing k) e = absurd (false≢true e)
      go (failing s) d e = absurd (false≢true e)

  pub agreement_met : Sound p → Agrees p t → is_admitted (agreement p t) ≡ true
  unfolding agreement
  agreement_met s k = rw (passes (decides_sound p) s, passes (decides_agrees p t) k) refl

  pub met_agreement : Sound p → Agrees p t → agreement p t ≡ Admitted
  met_agreement s k = is_admitted_lem (agreement p t) (agreement_met s k)

  module _ (e : Event) where
    pub first_refused : is_admitted (agreement p t) ≡ false → answer p t e ≡ agreement p t
    unfolding answer agreement
    first_refused h = refused_part (first_questions p t) (own_questions p (jobs_of t) e) first_refuses h

    pub first_met : is_admitted (agreement p t) ≡ true → answer p t e ≡ answer_of Admitted (own_questions p (jobs_of t) e)
    unfolding answer agreement
    first_met h = met_part (first_questions p t) (own_questions p (jobs_of t) e) first_refuses h

    -- what an entrance hands back is the list_outcome, if its answer is the event's and the table the one that is named
    module _ (a : Answer) (says : answer p t e ≡ a) where
      pub admitted_outcome : is_admitted a ≡ true → (next : JobList) → next ≡ list_of (jobs_after p (jobs_of t) e)
          → record { answer = a; list = next } ≡ list_outcome p t e
      unfolding list_after
      admitted_outcome h next leads = λ i. record { answer = sym says i; list = list i }
        where
          list : next ≡ list_after p t e
          list = leads ∙ rw (says, h) refl

      pub refused_outcome : is_admitted a ≡ false → record { answer = a; list = t } ≡ list_outcome p t e
      unfolding list_after
      refused_outcome h = λ i. record { answer = sym says i; list = list i }
        where
          list : t ≡ list_after p t e
          list = rw (says, h) refl

    -- a refusal whose outcome is the event's
    pub judged_error : (r : Answer) → is_admitted r ≡ false → applied t (Err r) ≡ list_outcome p t e → Judges p t e (Err r)
    judged_error r refused outcome = record { outcome = outcome; admitted = sym (ap (λ (o : ListOutcome). is_admitted o.answer) (sym outcome) ∙ refused) }

    -- so it is with what a function answers, where the event's answer is that of questions which hand on something
    module _ {A : Type 0} (a : Answer) (x : A) (says : answer p t e ≡ a) where
      pub judged_refused : {r : Answer} → unless_refused a x ≡ Err r → Judges p t e (Err r)
      judged_refused h =
          let k = refused_as a x h in
          let refused = ap is_admitted (sym k.1) ∙ k.0 in
          judged_error _ refused (refused_outcome _ (says ∙ k.1) refused)

      pub judged_admitted : {y : A} → unless_refused a x ≡ Ok y → (change : Change) → changed_by t change ≡ list_of (jobs_after p (jobs_of t) e)
          → Judges p t e (Ok change)
      judged_admitted h change leads =
          let met = says ∙ is_admitted_lem a (handed_on a x h).0 in
          record { outcome = admitted_outcome Admitted met refl (changed_by t change) leads; admitted = ap is_admitted (sym met) }

    -- an entrance asks some of the event's own questions where the first two are met
    module _ (own rest : List (Question Answer)) (whole : own_questions p (jobs_of t) e ≡ own ++ rest) (refusing : Refusing own) where
      own_refused : is_admitted (agreement p t) ≡ true → is_admitted (answer_of Admitted own) ≡ false → answer p t e ≡ answer_of Admitted own
      own_refused met h = first_met met ∙ ap (answer_of Admitted) whole ∙ refused_part own rest refusing h

      module _ (first a : Answer) (opens : first ≡ agreement p t) (asked : a ≡ cond (is_admitted first) (answer_of Admitted own) first) where
        pub entry_refused : is_admitted a ≡ false → record { answer = a; list = t } ≡ list_outcome p t e
        entry_refused h = refused_outcome a (go (is_admitted first) refl) h
          where
            go : (b : Bool) → is_admitted first ≡ b → answer p t e ≡ a
            go true e =
                let turn : a ≡ answer_of Admitted own = asked ∙ rw e refl in
                own_refused (ap is_admitted (sym opens) ∙ e) (ap is_admitted (sym turn) ∙ h) ∙ sym turn
            go false e =
                let turn : a ≡ first = asked ∙ rw e refl in
                first_refused (ap is_admitted (sym opens) ∙ e) ∙ sym opens ∙ sym turn

        -- where they are all met
        pub entry_met : is_admitted a ≡ true → (is_admitted (agreement p t) ≡ true) × (is_admitted (answer_of Admitted own) ≡ true)
        entry_met h = go (is_admitted first) refl
          where
            go : (b : Bool) → is_admitted first ≡ b → (is_admitted (agreement p t) ≡ true) × (is_admitted (answer_of Admitted own) ≡ true)
            go true e =
                let turn : a ≡ answer_of Admitted own = asked ∙ rw e refl in
                (ap is_admitted (sym opens) ∙ e, ap is_admitted (sym turn) ∙ h)
            go false e =
                let turn : a ≡ first = asked ∙ rw e refl in
                absurd (false≢true (sym e ∙ ap is_admitted (sym turn) ∙ h))

-- 13 and 14 of an event whose job must be active
module _ (js : List Job) (n : ℕ) where
  name_refuses : Refusing (name_questions js n)
  name_refuses = (refl, (refl, tt))

  -- where they are met the number is active
  pub name_holds : is_admitted (answer_of Admitted (name_questions js n)) ≡ true → is_active n js ≡ true
  name_holds h = go (in_range n max_number) (is_active n js) h
    where
      go : (a b : Bool) → is_admitted (cond a (cond b Admitted WrongActivity) BadNumber) ≡ true → b ≡ true
      go true true e = refl
      go true false e = absurd (false≢true e)
      go false b e = absurd (false≢true e)

  pub name_met : (rest : List (Question Answer)) → is_admitted (answer_of Admitted (name_questions js n)) ≡ true
      → answer_of Admitted (name_questions js n ++ rest) ≡ answer_of Admitted rest
  name_met rest h = met_part (name_questions js n) rest name_refuses h
