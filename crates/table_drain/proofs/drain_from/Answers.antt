use Rattle.std.proofs.Common.{ℕ, ◌-◌, ◌+◌, ◌≤◌, ◌<◌, ◌≡◌, length, get_or, refl, sym, ap, ◌∙◌, arith}
use mathlib.Core.Path.{subst⁻¹}
use Rattle.std.specs.Prelude.{Some, None}
use Rattle.model.specs.Limits.{max_stages}
use Rattle.model.specs.Soundness.{Sound}
use Rattle.model.specs.Jobs.{no_job, AtStage}
use Rattle.model.specs.declared.Plan.{Plan}
use Rattle.events.specs.JobList.{Agrees}
use Rattle.events.specs.Events.{list_after}
use Rattle.events.specs.Drain.{move_of, drain_from, stopped}
use Rattle.internals.specs.Internals.{earliest_position, moved_at}
use Rattle.events.specs.declared.JobList.{JobList}
use Rattle.events.specs.declared.End.{End}
use Rattle.events.specs.declared.End.TheVariants.{Emptied, OutOfBudget, NoMove}
use Rattle.model.proofs.Lists.{each_get_d}
use Rattle.internals.proofs.DrainLoop.{position_below, after_moves, after_stopped, after_more, drain_empty, drain_spent, drain_stuck, drain_goes, next_list, next_agrees}
use Rattle.plan_bytes.specs.Over.{plan_read, plan_over, plan_of}
use Rattle.table_drain.proofs.drain_from.Goals as goal

-- at the head of the loop
module _ (p : Plan) (start t : JobList) (moves budget : ℕ) (sound : Sound p) (agrees : Agrees p t)
    (rest : drain_from p budget start ≡ after_moves moves (drain_from p (budget - moves) t)) where
  -- a drain that stops here has made the moves made
  stops : (e : End) → drain_from p (budget - moves) t ≡ stopped e t → record { end = e; moves = moves; list = t } ≡ drain_from p budget start
  stops e h = sym (rest ∙ ap (after_moves moves) h ∙ after_stopped moves (stopped e t) refl)

  -- where a job's move is admitted
  module _ (left : 0 < t.count) (at : ℕ) (found : earliest_position p t ≡ Some at) where
    low : at < t.count
    low = position_below p t sound agrees left at found

    staged : AtStage p (get_or t.jobs at no_job)
    staged =
        let room : at < length t.jobs = omega (arith, low, agrees.few, agrees.slots) in
        each_get_d (AtStage p) t.jobs t.count at no_job agrees.jobs.staged low room

    stage_low : (get_or t.jobs at no_job).stage ≤ max_stages
    stage_low = omega (arith, staged.1, sound.lengths _ staged.0)

    abbrev next : JobList
    next = list_after p t (move_of p (get_or t.jobs at no_job))

    leads : moved_at p t at ≡ next
    leads = next_list p t sound agrees left at found

    next_agreeing : Agrees p next
    next_agreeing = next_agrees p t sound agrees left at found

    goes : moves < budget → drain_from p budget start ≡ after_moves (moves + 1) (drain_from p (budget - (moves + 1)) next)
    goes more =
        let n = budget - moves in
        let less : n - 1 ≡ budget - (moves + 1) = omega arith in
        rest
        ∙ ap (after_moves moves) (drain_goes p t sound agrees left at found n (omega arith))
        ∙ after_more moves _
        ∙ ap (λ n. after_moves (moves + 1) (drain_from p n next)) less

pub returns-then-budget-moves : goal.returns-then-budget-moves
returns-then-budget-moves c =
    let a = c.args in
    let l = c.loop-t in
    let p = plan_of a.plan in
    let k = l.invariant in
    stops p a.t l.t l.moves a.budget k.sound k.agrees k.rest OutOfBudget
    (drain_spent p l.t k.sound k.agrees (omega (arith, c.loop-t-test.true)) (a.budget - l.moves) (omega (arith, c.if-budget-moves.true)))

pub returns-in_default : goal.returns-in_default
returns-in_default c =
    let a = c.args in
    let l = c.loop-t in
    let p = plan_of a.plan in
    let k = l.invariant in
    let none : earliest_position p l.t ≡ None = sym c.earliest-first.ensures ∙ c.in_default.is in
    stops p a.t l.t l.moves a.budget k.sound k.agrees k.rest NoMove
    (drain_stuck p l.t k.sound k.agrees c.loop-t-test.true (a.budget - l.moves) (omega (arith, c.if-budget-moves.false)) none)

pub after_move-t-requires : goal.after_move-t-requires
after_move-t-requires c =
    let a = c.args in
    let l = c.loop-t in
    let p = plan_of a.plan in
    let k = l.invariant in
    let found = sym c.earliest-first.ensures ∙ c.in-Some.is in (
      low p a.t l.t l.moves a.budget k.sound k.agrees k.rest c.loop-t-test.true _ found,
      k.agrees.few,
      stage_low p a.t l.t l.moves a.budget k.sound k.agrees k.rest c.loop-t-test.true _ found,
    )

pub loop-t-preserved : goal.loop-t-preserved
unfolding plan_over plan_read
loop-t-preserved c =
    let a = c.args in
    let l = c.loop-t in
    let p = plan_of a.plan in
    let k = l.invariant in
    let found = sym c.earliest-first.ensures ∙ c.in-Some.is in
    let made = c.after_move-t.ensures p k.sound k.agrees refl ∙ leads p a.t l.t l.moves a.budget k.sound k.agrees k.rest c.loop-t-test.true _ found in
    let drained =
    goes p a.t l.t l.moves a.budget k.sound k.agrees k.rest c.loop-t-test.true _ found c.if-budget-moves.false
    ∙ ap (λ (u : JobList). after_moves (l.moves + 1) (drain_from p (a.budget - (l.moves + 1)) u)) (sym made)
    in
    record {
      sound = k.sound;
      agrees = subst⁻¹ (Agrees p) made (next_agreeing p a.t l.t l.moves a.budget k.sound k.agrees k.rest c.loop-t-test.true _ found);
      ceilings = k.ceilings;
      within = omega (arith, c.if-budget-moves.false);
      rest = drained;
    }

pub returns : goal.returns
returns c =
    let a = c.args in
    let l = c.loop-t in
    let p = plan_of a.plan in
    let k = l.invariant in
    stops p a.t l.t l.moves a.budget k.sound k.agrees k.rest Emptied
    (drain_empty p l.t k.sound k.agrees (a.budget - l.moves) (omega (arith, c.loop-t-test.false)))
