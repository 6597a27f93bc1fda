-- A refused plan is the empty plan, which is unsound: every event is answered 11 at the first question.
use Prim.Native.Nat.{ℕ}
use mathlib.Core.List.{List}
use mathlib.Core.Logic.{◌≢◌}
use mathlib.Core.Path.{◌≡◌, refl}
use Rattle.model.specs.Soundness.{Sound}
use Rattle.model.specs.declared.Plan.{Plan}
use Rattle.model.proofs.Decide.{fails}
use Rattle.model.proofs.Soundness.{decides_sound, empty_plan_unsound}
use Rattle.events.specs.Events.{answer}
use Rattle.events.specs.declared.JobList.{JobList}
use Rattle.events.specs.declared.Event.{Event}
use Rattle.events.specs.declared.Answer.TheVariants.{UnsoundPlan}
use Rattle.plan_text.specs.TextQuestions.{text_number}
use Rattle.plan_text.specs.Reading.{reading}
use Rattle.plan_text.proofs.AcceptedText.{refused_empty}
use Rattle.moves_text.specs.Division.{plan_part}

unsound_eleven : (p : Plan) → (¬ Sound p) → (t : JobList) (e : Event) → answer p t e ≡ UnsoundPlan
unfolding answer
unsound_eleven p unsound t e = rw (fails (decides_sound p) unsound) refl

pub refused_eleven : (input : List ℕ) → text_number (reading (plan_part input)).answer ≢ 0
    → (t : JobList) (e : Event) → answer (reading (plan_part input)).plan t e ≡ UnsoundPlan
refused_eleven input refused =
    unsound_eleven (reading (plan_part input)).plan (rw (refused_empty (plan_part input) refused) empty_plan_unsound)
