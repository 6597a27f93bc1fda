-- The emptying rule: the table and the ledger hold the same jobs through every list, an admitted move is one stage fewer, and the
-- upstream rule leaves a move while a job remains.
use Prim.Native.Nat.{◌+◌}
use native.Mathlib.Omega.{arith}
use mathlib.Core.Bool.{false, cond, false≢true}
use mathlib.Core.List.{List, [], ◌∷◌}
use mathlib.Core.Logic.{◌≢◌, ⊎_elim, ◌↔◌}
use mathlib.Core.Path.{◌≡◌, refl, sym, ap, subst, ◌∙◌}
use lib.ListN.{length, length-take}
use Rattle.model.specs.Questions.{AllHold}
use Rattle.model.specs.Numbers.{Each}
use Rattle.model.specs.Plan.{demand_of, weight_of}
use Rattle.model.specs.Jobs.{Active, Agreeing}
use Rattle.model.specs.Soundness.{Sound}
use Rattle.model.specs.Upstream.{UpstreamRule, check}
use Rattle.model.specs.declared.Check.TheVariants.{Meets}
use Rattle.model.specs.declared.Plan.{Plan}
use Rattle.model.specs.declared.Job.{Job}
use Rattle.model.proofs.Sums.{over_stages_jobs}
use Rattle.model.proofs.Jobs.{none_active}
use Rattle.model.proofs.Upstream.{check_exact}
use Rattle.events.specs.JobList.{jobs_of, list_of, empty_list, Agrees}
use Rattle.events.specs.Events.{IsMove, own_conditions, answer, is_admitted, list_after}
use Rattle.events.specs.Drain.{stages_before, move_of, is_empty}
use Rattle.emptying.specs.Run.{State, run, list_after_all, answers, admitted_count}
use Rattle.emptying.specs.Emptying.{SomeMove, start, EmptyingRule, EmptyingTheorem}
use Rattle.events.specs.declared.JobList.{JobList}
use Rattle.events.specs.declared.Event.{Event}
use Rattle.events.specs.declared.Event.TheVariants.{Load, Advance, Unload, Pull}
use Rattle.events.specs.declared.Answer.TheVariants.{Admitted}
use Rattle.events.proofs.JobLists.{agreeing_list}
use Rattle.events.proofs.Answers.{admitted_or_not, admitted_holds, list_refused}
use Rattle.events.proofs.Moves.{move_count, job_moves, movable_job}
use Rattle.emptying.proofs.Ledger.{Consistent, jobs_of_ledger, state_after, stays_consistent}

-- no job agrees with any plan
none_agreeing : (p : Plan) → Agreeing p []
none_agreeing p =
    record {
      numbered = tt;
      distinct = tt;
      staged = tt;
      capacities = λ r h. omega (arith, over_stages_jobs p (demand_of p r) [] tt);
      rows = λ w h. omega (arith, over_stages_jobs p (weight_of p w) [] tt);
    }

pub start_consistent : (p : Plan) → Consistent p start
start_consistent p =
    record {
      same = refl;
      agrees = agreeing_list p [] (omega arith) (none_agreeing p);
      balance = λ r. omega (arith, over_stages_jobs p (demand_of p r) [] tt);
    }

pub run_consistent : (p : Plan) → Sound p → (s : State) (es : List Event) → Consistent p s → Consistent p (run p s es)
run_consistent p sound s [] h = h
run_consistent p sound s (e ∷ es) h = run_consistent p sound (state_after p s e) es (stays_consistent p sound s e h)

-- the admitted moves of a list are the fall in stages still before the jobs
step_count : (p : Plan) (t : JobList) (e : Event) → IsMove e
    → cond (is_admitted (answer p t e)) 1 0 + stages_before p (jobs_of (list_after p t e)) ≡ stages_before p (jobs_of t)
step_count p t e move =
    ⊎_elim (λ (h : answer p t e ≡ Admitted). rw (ap is_admitted h) (move_count p t e move h))
    (λ (h : is_admitted (answer p t e) ≡ false). rw (h, list_refused p t e h) (omega arith)) (admitted_or_not (answer p t e))

run_count : (p : Plan) (t : JobList) (es : List Event) → Each IsMove es
    → admitted_count (answers p t es) + stages_before p (jobs_of (list_after_all p t es)) ≡ stages_before p (jobs_of t)
run_count p t [] moves = omega arith
run_count p t (e ∷ es) moves = omega (arith, run_count p (list_after p t e) es moves.1, step_count p t e moves.0)

-- an admitted move has its job
move_active : (p : Plan) (js : List Job) (e : Event) → IsMove e → AllHold (own_conditions p js e) → js ≢ []
move_active p js (Load n t) move h e = move
move_active p js (Advance n) move h e = none_active (subst (Active n) e h.1.0)
move_active p js (Unload n) move h e = none_active (subst (Active n) e h.1.0)
move_active p js (Pull n) move h e = move

some_move : (p : Plan) → UpstreamRule p → (t : JobList) → Agrees p t → SomeMove p t ↔ (jobs_of t ≢ [])
some_move p rule t agrees = (
  λ m. move_active p (jobs_of t) m.event m.move (admitted_holds p t m.event m.admitted).1.1,
  λ left. let o = movable_job p t rule agrees left in record { event = move_of p o.here.item; move = job_moves p o.here.item; admitted = o.admitted },
)

-- a sound plan under which some move is open exactly where a job is left
module _ (p : Plan) (movable : (t : JobList) → Agrees p t → SomeMove p t ↔ (jobs_of t ≢ [])) (sound : Sound p) (events moves : List Event)
    (are-moves : Each IsMove moves) where
  abbrev between : State
  between = run p start events

  abbrev end : State
  end = run p between moves

  first : Consistent p between
  first = run_consistent p sound start events (start_consistent p)

  last : Consistent p end
  last = run_consistent p sound between moves first

  jobs : jobs_of end.list ≡ end.ledger.jobs
  jobs = jobs_of_ledger p end last

  agreeing : Agreeing p end.ledger.jobs
  agreeing = subst (Agreeing p) jobs last.agrees.jobs

  count : admitted_count (answers p between.list moves) + stages_before p end.ledger.jobs ≡ stages_before p between.ledger.jobs
  count =
      omega
      (arith, run_count p between.list moves are-moves, ap (stages_before p) jobs, ap (stages_before p) (jobs_of_ledger p between first))

  abbrev Emptied : Type 0
  Emptied = (end.list ≡ empty_list) × (admitted_count (answers p between.list moves) ≡ stages_before p between.ledger.jobs)

  emptied : (¬ SomeMove p end.list) → Emptied
  emptied closed = go end.ledger.jobs refl
    where
      go : (js : List Job) → end.ledger.jobs ≡ js → Emptied
      go [] e = (last.same ∙ ap list_of e, omega (arith, count, ap (stages_before p) e))
      go (j ∷ js) e = absurd (closed ((movable end.list last.agrees).1 (λ n. false≢true (ap is_empty (sym e ∙ sym jobs ∙ n)))))

  emptied_where : EmptyingRule p between end (admitted_count (answers p between.list moves))
  emptied_where =
      record {
        same = last.same;
        few = omega (arith, ap length jobs, length-take end.list.count end.list.jobs, last.agrees.few);
        units = λ r h. last.balance r;
        capacity = λ r h. agreeing.capacities r h;
        movable = subst (λ (js : List Job). SomeMove p end.list ↔ (js ≢ [])) jobs (movable end.list last.agrees);
        count = count;
        emptied = emptied;
      }

rule_sound : (p : Plan) → UpstreamRule p → Sound p
rule_sound p rule = rule.sound

-- so the rule is used for the moves, and beside them for soundness alone
pub emptying_theorem : EmptyingTheorem
emptying_theorem p rule = emptied_where p (some_move p rule) (rule_sound p rule)

-- the same for whoever has the check's answer
pub emptying_passed : (p : Plan) → check p ≡ Meets → (events moves : List Event) → Each IsMove moves
    → let between = run p start events in EmptyingRule p between (run p between moves) (admitted_count (answers p between.list moves))
emptying_passed p passed = emptying_theorem p ((check_exact p).0 passed)
