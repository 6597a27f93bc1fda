-- By how much an event can exceed a row: every row was kept before it, and the stage that it enters weighs at most 255.
use Prim.Native.Nat.{ℕ, ◌≤◌}
use native.Mathlib.Omega.{arith}
use mathlib.Core.List.{List}
use mathlib.Core.Path.{ap}
use Rattle.model.specs.Limits.{max_units}
use Rattle.model.specs.Numbers.{InRange}
use Rattle.model.specs.Plan.{weight_of}
use Rattle.model.specs.Jobs.{row_sum, row_excess, loaded_job, advanced_job, AtStage, Agreeing}
use Rattle.model.specs.Soundness.{Sound}
use Rattle.model.specs.declared.Plan.{Plan}
use Rattle.model.specs.declared.Job.{Job}
use Rattle.model.proofs.Jobs.{weight_most}
use Rattle.model.proofs.Sums.{over_stages_added, over_stages_moved}
use Rattle.events.specs.Events.{LeadsTo, WellNamed}
use Rattle.events.specs.declared.Event.{Event}
use Rattle.events.specs.declared.Event.TheVariants.{Load, Advance, Unload, Pull}
use Rattle.events.proofs.Answers.{staged_job, left_keeps}

module _ (p : Plan) (sound : Sound p) (js : List Job) (agreeing : Agreeing p js) (w : ℕ) (row : InRange w p.rows) where
  pub event_excess_most : (e : Event) (next : List Job) → WellNamed p js e → LeadsTo p js e next → row_excess p w next ≤ max_units
  event_excess_most (Load n t) next named h =
      let j = loaded_job n t in
      let staged : AtStage p j = (named.2, omega (arith, sound.lengths t named.2)) in
      rw h (omega (arith, agreeing.rows w row, over_stages_added p (weight_of p w) js j staged, weight_most p sound w row j staged))
  event_excess_most (Advance n) next named (a, more, h) =
      let j = a.here.item in
      let staged = staged_job p sound js agreeing n a in
      let entered : AtStage p (advanced_job p j) = (staged.0, omega (arith, more)) in
      let moved = over_stages_moved p (weight_of p w) a.here.before a.here.after j (advanced_job p j) staged entered in
      rw h (omega (arith, agreeing.rows w row, ap (row_sum p w) a.here.whole, moved, weight_most p sound w row (advanced_job p j) entered))
  event_excess_most (Unload n) next named (a, last, h) = rw h (omega (arith, (left_keeps p sound js agreeing n a).1 w row))
  event_excess_most (Pull n) next named (a, h) = rw h (omega (arith, (left_keeps p sound js agreeing n a).1 w row))
