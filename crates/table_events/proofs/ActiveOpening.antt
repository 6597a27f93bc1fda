-- What the opening of a move or a pull says: its refusal is the event's; where it is met, the job that the number names stands in the
-- list, at a stage that the event asks for, and the sums and ceilings are those of list and plan.
use Prim.Native.Nat.{ℕ}
use mathlib.Core.Bool.{true, false≢true}
use mathlib.Core.Path.{◌≡◌, refl, sym, ap, ◌∙◌}
use Rattle.std.specs.Prelude.{Result, Ok, Err, is_ok}
use Rattle.model.specs.Jobs.{job_of}
use Rattle.model.specs.declared.Plan.{Plan}
use Rattle.events.specs.JobList.{jobs_of}
use Rattle.events.specs.declared.JobList.{JobList}
use Rattle.events.specs.declared.Answer.{Answer}
use Rattle.internals.specs.Internals.{found_in, stage_met, active_answer, agreed}
use Rattle.internals.specs.JobNumbers.{Judges}
use Rattle.internals.specs.declared.Agreed.{Agreed}
use Rattle.internals.specs.declared.Found.{Found}
use Rattle.internals.specs.declared.StageAsked.{StageAsked}
use Rattle.internals.proofs.Positions.{standing}
use Rattle.internals.proofs.FirstQuestions.{at_hand, agreed_holds, agreed_judges}
use Rattle.internals.proofs.ActiveQuestions.{StandsActive, event_asking, active_refused, active_stands}
use Rattle.table_events.specs.ActiveAsked.{both_asked, active_asked}
use Rattle.table_events.specs.declared.Asked.{Asked}

-- questions 11 to 14 and 17 are met, and this is handed on
pub record Opened (p : Plan) (t : JobList) (n : ℕ) (wanted : StageAsked) (a : Asked) : Type 0 where
  pub stands : StandsActive p t n
  pub right_stage : stage_met p wanted (job_of n (jobs_of t)) ≡ true
  pub at_hand : at_hand p t ≡ a.agreed
  pub found : standing n (jobs_of t) ≡ a.found

module _ (p : Plan) (t : JobList) (n : ℕ) (wanted : StageAsked) where
  abbrev found_by : Result Found Answer
  found_by = active_answer p.lengths (found_in n (jobs_of t)) n wanted

  abbrev refusal_or : {A : Type 0} → Answer → Result A Answer → Answer
  refusal_or a (Ok x) = a
  refusal_or a (Err e) = e

  abbrev asked_or : Asked → Result Asked Answer → Asked
  asked_or a (Ok x) = x
  asked_or a (Err e) = a

  pub opening_refused : {r : Answer} → active_asked p t n wanted ≡ Err r → Judges p t (event_asking wanted n) (Err r)
  opening_refused {r} h = go (agreed p t) refl found_by refl h
    where
      go : (g : Result Agreed Answer) → agreed p t ≡ g → (f : Result Found Answer) → found_by ≡ f → both_asked g f ≡ Err r
          → Judges p t (event_asking wanted n) (Err r)
      go (Ok g) e (Ok f) d k = absurd (false≢true (sym (ap is_ok k)))
      go (Ok g) e (Err s) d k = active_refused p t n wanted (agreed_holds p t e).0 (d ∙ ap (λ (s : Answer). Err s) (ap (refusal_or s) k))
      go (Err s) e f d k = agreed_judges p t (event_asking wanted n) (e ∙ ap (λ (s : Answer). Err s) (ap (refusal_or s) k))

  pub opened : {a : Asked} → active_asked p t n wanted ≡ Ok a → Opened p t n wanted a
  opened {a} h = go (agreed p t) refl found_by refl h
    where
      go : (g : Result Agreed Answer) → agreed p t ≡ g → (f : Result Found Answer) → found_by ≡ f → both_asked g f ≡ Ok a → Opened p t n wanted a
      go (Ok g) e (Ok f) d k =
          let holds = agreed_holds p t e in
          let stands = active_stands p t n wanted holds.0 d in
          let same = ap (asked_or a) k in
          record {
            stands = stands.0;
            right_stage = stands.1;
            at_hand = holds.1 ∙ ap (λ (a : Asked). a.agreed) same;
            found = stands.2 ∙ ap (λ (a : Asked). a.found) same;
          }
      go (Ok g) e (Err s) d k = absurd (false≢true (ap is_ok k))
      go (Err s) e f d k = absurd (false≢true (ap is_ok k))
