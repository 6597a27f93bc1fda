-- The drain's loop: what is left to do from the table at hand, with the moves made so far added, is what was to do at the
-- start.
use Prim.Native.Nat.{ℕ, zero, suc, ◌+◌, ◌-◌, ◌≤◌, ◌<◌}
use native.Mathlib.Omega.{arith}
use Rattle.std.specs.Prelude.{Some, None}
use mathlib.Core.Bool.{Bool, true, false, cond, false≢true}
use mathlib.Core.List.{List, [], ◌∷◌}
use mathlib.Core.Logic.{◌≢◌}
use mathlib.Core.Path.{◌≡◌, refl, sym, ap, ◌∙◌}
use lib.ListN.{length, get_or}
use lib.Seq.{get_or-take}
use Rattle.model.specs.Jobs.{no_job}
use Rattle.model.specs.Soundness.{Sound, sound}
use Rattle.model.specs.declared.Plan.{Plan}
use Rattle.model.specs.declared.Job.{Job}
use Rattle.events.specs.JobList.{jobs_of, list_of, Agrees, agrees}
use Rattle.events.specs.Events.{answer_numbers, is_admitted, agreement, answer, jobs_after, list_after}
use Rattle.events.specs.Drain.{move_of, is_empty, stopped, one_more, drain_from, list_drain}
use Rattle.internals.specs.Internals.{earliest_position}
use Rattle.events.specs.declared.JobList.{JobList}
use Rattle.events.specs.declared.Event.{Event}
use Rattle.events.specs.declared.Answer.{Answer}
use Rattle.events.specs.declared.Answer.TheVariants.{Admitted}
use Rattle.events.specs.declared.Answer.TheVariants as answers
use Rattle.events.specs.declared.End.TheVariants.{Emptied, UnsoundPlan, Disagreement, OutOfBudget, NoMove}
use Rattle.events.specs.declared.ListDrained.{ListDrained}
use Rattle.internals.proofs.ListChanges.{count_is}
use Rattle.events.proofs.Answers.{list_admitted, agrees_after}
use Rattle.internals.proofs.QuestionParts.{is_admitted_lem}
use Rattle.internals.proofs.EarliestMove.{FirstMoves, first_moves, earliest_none}

-- a drain with so many moves made before it
abbrev pub after_moves : ℕ → ListDrained → ListDrained
after_moves m d = record { end = d.end; moves = m + d.moves; list = d.list }

same_moves : (d : ListDrained) (m : ℕ) → d.moves ≡ m → d ≡ record { end = d.end; moves = m; list = d.list }
same_moves d m e = λ i. record { end = d.end; moves = e i; list = d.list }

pub after_no_move : (d : ListDrained) → d ≡ after_moves 0 d
after_no_move d = same_moves d (0 + d.moves) (omega arith)

pub after_stopped : (m : ℕ) (d : ListDrained) → d.moves ≡ 0 → after_moves m d ≡ record { end = d.end; moves = m; list = d.list }
after_stopped m d e = same_moves (after_moves m d) m (omega (arith, e))

pub after_more : (m : ℕ) (d : ListDrained) → after_moves m (one_more d) ≡ after_moves (m + 1) d
after_more m d = same_moves (after_moves m (one_more d)) (m + 1 + d.moves) (omega arith)

empty_list : (js : List Job) → length js ≡ 0 → is_empty js ≡ true
empty_list [] h = refl
empty_list (j ∷ js) h = absurd (omega arith)

some_list : (js : List Job) → 0 < length js → is_empty js ≡ false
some_list [] h = absurd (omega arith)
some_list (j ∷ js) h = refl

module _ (p : Plan) (t : JobList) (plan : Sound p) (agreeing : Agrees p t) where
  counted : length (jobs_of t) ≡ t.count
  counted = sym (count_is p t agreeing)

  pub drain_empty : (budget : ℕ) → t.count ≤ 0 → drain_from p budget t ≡ stopped Emptied t
  unfolding drain_from
  drain_empty zero h = rw (empty_list (jobs_of t) (omega (arith, counted))) refl
  drain_empty (suc budget) h = rw (empty_list (jobs_of t) (omega (arith, counted))) refl

  module _ (left : 0 < t.count) where
    pub drain_spent : (budget : ℕ) → budget ≤ 0 → drain_from p budget t ≡ stopped OutOfBudget t
    unfolding drain_from
    drain_spent zero h = rw (some_list (jobs_of t) (omega (arith, counted))) refl
    drain_spent (suc budget) h = absurd (omega arith)

    pub drain_stuck : (budget : ℕ) → 0 < budget → earliest_position p t ≡ None → drain_from p budget t ≡ stopped NoMove t
    unfolding drain_from
    drain_stuck zero h stuck = absurd (omega arith)
    drain_stuck (suc budget) h stuck =
        rw (some_list (jobs_of t) (omega (arith, counted)), earliest_none p t (jobs_of t) 0 stuck) refl

    -- the job that moves
    module _ (position : ℕ) (found : earliest_position p t ≡ Some position) where
      abbrev move : Event
      move = move_of p (get_or t.jobs position no_job)

      first : FirstMoves p t (jobs_of t) position
      first = first_moves p t position found

      pub position_below : position < t.count
      position_below = omega (arith, first.below, counted)

      moving : move_of p (get_or (jobs_of t) position no_job) ≡ move
      moving = ap (move_of p) (get_or-take t.count t.jobs position no_job position_below)

      pub move_admitted : is_admitted (answer p t move) ≡ true
      move_admitted = ap (λ (e : Event). is_admitted (answer p t e)) (sym moving) ∙ first.moves

      pub drain_goes : (budget : ℕ) → 0 < budget → drain_from p budget t ≡ one_more (drain_from p (budget - 1) (list_after p t move))
      unfolding drain_from
      drain_goes zero h = absurd (omega arith)
      drain_goes (suc budget) h =
          let less : suc budget - 1 ≡ budget = omega arith in
          rw (some_list (jobs_of t) (omega (arith, counted)), first.earliest, moving, less) refl

      pub next_list : list_of (jobs_after p (jobs_of t) move) ≡ list_after p t move
      next_list = sym (list_admitted p t move (is_admitted_lem _ move_admitted))

      pub next_agrees : Agrees p (list_after p t move)
      next_agrees = agrees_after p t move plan agreeing

-- a drain by the answers to its first two questions
module _ (p : Plan) (t : JobList) (budget : ℕ) where
  abbrev begun : Bool → Bool → ListDrained
  begun a b = cond a (cond b (drain_from p budget t) (stopped Disagreement t)) (stopped UnsoundPlan t)

  abbrev asked : Bool → Bool → Answer
  asked a b = cond a (cond b Admitted answers.Disagreement) answers.UnsoundPlan

  pub drain_begins : is_admitted (agreement p t) ≡ true → list_drain p t budget ≡ drain_from p budget t
  unfolding list_drain agreement
  drain_begins h = go (sound p) (agrees p t) h
    where
      go : (a b : Bool) → is_admitted (asked a b) ≡ true → begun a b ≡ drain_from p budget t
      go true true e = refl
      go true false e = absurd (false≢true e)
      go false b e = absurd (false≢true e)

  pub drain_unsound : agreement p t ≡ answers.UnsoundPlan → list_drain p t budget ≡ stopped UnsoundPlan t
  unfolding list_drain agreement
  drain_unsound h = go (sound p) (agrees p t) (ap (λ (a : Answer). (answer_numbers a).0) h)
    where
      go : (a b : Bool) → (answer_numbers (asked a b)).0 ≡ 11 → begun a b ≡ stopped UnsoundPlan t
      go true true e = absurd (omega arith)
      go true false e = absurd (omega arith)
      go false b e = refl

  pub drain_disagreeing : is_admitted (agreement p t) ≡ false → agreement p t ≢ answers.UnsoundPlan → list_drain p t budget ≡ stopped Disagreement t
  unfolding list_drain agreement
  drain_disagreeing h k = go (sound p) (agrees p t) h k
    where
      go : (a b : Bool) → is_admitted (asked a b) ≡ false → asked a b ≢ answers.UnsoundPlan → begun a b ≡ stopped Disagreement t
      go true true e n = absurd (false≢true (sym e))
      go true false e n = refl
      go false b e n = absurd (n refl)
