-- An event that takes its job out asks nothing more once its opening is met: it is then admitted, and the list with the gap closed is the
-- one that it names. An unload and a pull differ only in what they ask of the stage.
use Prim.Native.Nat.{ℕ}
use mathlib.Core.Bool.{true}
use mathlib.Core.Path.{◌≡◌, refl, sym, ap, ◌∙◌}
use Rattle.std.specs.Prelude.{Result, Ok, Err}
use Rattle.model.specs.Jobs.{job_of, removed}
use Rattle.model.specs.declared.Plan.{Plan}
use Rattle.events.specs.JobList.{jobs_of, list_of}
use Rattle.events.specs.Events.{jobs_after, answer}
use Rattle.events.specs.declared.Answer.{Answer}
use Rattle.events.specs.declared.JobList.{JobList}
use Rattle.events.specs.declared.Event.{Event}
use Rattle.events.specs.declared.Answer.TheVariants.{Admitted}
use Rattle.internals.specs.Internals.{stage_met, without_job}
use Rattle.internals.specs.JobNumbers.{Judges}
use Rattle.internals.specs.declared.Found.{Found}
use Rattle.internals.specs.declared.Change.TheVariants.{Removed}
use Rattle.internals.specs.declared.StageAsked.{StageAsked}
use Rattle.internals.proofs.ListChanges.{removed_list}
use Rattle.internals.proofs.QuestionParts.{judged_admitted}
use Rattle.internals.proofs.ActiveQuestions.{StandsActive, event_asking, active}
use Rattle.table_events.specs.ActiveAsked.{active_asked, removal_from}
use Rattle.table_events.specs.declared.Asked.{Asked}
use Rattle.table_events.proofs.ActiveOpening.{opening_refused, opened}

module _ (p : Plan) (t : JobList) (n : ℕ) (wanted : StageAsked) where
  abbrev event : Event
  event = event_asking wanted n

  pub removal_outcome : jobs_after p (jobs_of t) event ≡ removed n (jobs_of t)
      → (StandsActive p t n → stage_met p wanted (job_of n (jobs_of t)) ≡ true → answer p t event ≡ Admitted)
      → Judges p t event (removal_from (active_asked p t n wanted))
  removal_outcome leads goes = go (active_asked p t n wanted) refl
    where
      go : (r : Result Asked Answer) → active_asked p t n wanted ≡ r → Judges p t event (removal_from r)
      go (Ok a) e =
          let o = opened p t n wanted e in
          let at = ap (λ (f : Found). f.at) (sym o.found) in
          let gone = ap (without_job t) at ∙ removed_list p t o.stands.agrees n (active o.stands) ∙ ap list_of (sym leads) in
          judged_admitted p t event Admitted (tt {0}) (goes o.stands o.right_stage) refl (Removed a.found.at) gone
      go (Err r) e = opening_refused p t n wanted e
