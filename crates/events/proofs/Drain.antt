-- The drain's law: by induction on the budget each turn makes the earliest admitted move, so the moves form a chain; the
-- count and the emptying follow from the chain.
use Prim.Native.Nat.{ℕ, zero, suc, ◌+◌, ◌≤◌, ◌<◌}
use native.Mathlib.Omega.{arith}
use mathlib.Core.Bool.{Bool, true, false, cond, false≢true}
use mathlib.Core.List.{List, [], ◌∷◌}
use mathlib.Core.Logic.{◌≢◌, ◌⊎◌, inl, inr, ⊎_elim}
use mathlib.Core.Option.{Option, none, some}
use mathlib.Core.Path.{◌≡◌, refl, sym, ap, subst, subst⁻¹, ◌∙◌}
use Rattle.model.specs.Numbers.{Each}
use Rattle.model.specs.Questions.{FirstFailure}
use Rattle.model.specs.Soundness.{Sound, sound}
use Rattle.model.specs.Upstream.{UpstreamRule}
use Rattle.model.specs.declared.Plan.{Plan}
use Rattle.model.specs.declared.Job.{Job}
use Rattle.model.proofs.Decide.{Decides, holding, failing}
use Rattle.model.proofs.Lists.{split_first, split_later, each_at}
use Rattle.model.proofs.Soundness.{decides_sound}
use Rattle.events.specs.JobList.{jobs_of, list_of, empty_list, Agrees, agrees}
use Rattle.events.specs.Events.{IsMove, answer, is_admitted, list_after}
use Rattle.events.specs.Drain.{stages_before, move_of, Blocked, Earliest, Moves, stay, move, Movable, drain_conditions, DrainRule}
use Rattle.events.specs.Drain.{earliest, is_empty, stopped, one_more, go_on, drain_from, list_drain}
use Rattle.events.specs.declared.JobList.{JobList}
use Rattle.events.specs.declared.Event.{Event}
use Rattle.events.specs.declared.Answer.TheVariants.{Admitted}
use Rattle.events.specs.declared.End.{End}
use Rattle.events.specs.declared.End.TheVariants.{Emptied, UnsoundPlan, Disagreement, OutOfBudget, NoMove}
use Rattle.events.specs.declared.ListDrained.{ListDrained}
use Rattle.events.proofs.JobLists.{jobs_of_list, list_of_jobs, decides_agrees}
use Rattle.events.proofs.Answers.{admitted_or_not, agrees_after}
use Rattle.events.proofs.Moves.{move_count, job_moves, movable_job}

-- what the search over a list of jobs finds: no admitted move, or the first
abbrev Searched : Plan → JobList → List Job → Option Event → Type 0
Searched p t js none = Each (Blocked p t) js
Searched p t js (some e) = Earliest p t js e

earliest_searched : (p : Plan) (t : JobList) (js : List Job) → Searched p t js (earliest p t js)
earliest_searched p t [] = tt
earliest_searched p t (j ∷ js) = step (admitted_or_not (answer p t (move_of p j))) (earliest_searched p t js)
  where
    blocked : is_admitted (answer p t (move_of p j)) ≡ false → Blocked p t j
    blocked h e = false≢true (sym h ∙ ap is_admitted e)

    later : (o : Option Event) → Blocked p t j → Searched p t js o → Searched p t (j ∷ js) o
    later none b s = (b, s)
    later (some e) b s =
        record { here = split_later j s.here; move = s.move; admitted = s.admitted; earlier = (b, s.earlier) }

    step : (answer p t (move_of p j) ≡ Admitted) ⊎ (is_admitted (answer p t (move_of p j)) ≡ false) → Searched p t js (earliest p t js)
        → Searched p t (j ∷ js) (earliest p t (j ∷ js))
    step (inl h) s =
        let here : Earliest p t (j ∷ js) (move_of p j) = record { here = split_first j js; move = refl; admitted = h; earlier = tt } in
        rw (ap is_admitted h) here
    step (inr h) s = rw h (later (earliest p t js) (blocked h) s)

abbrev EmptyOrNot : List Job → Type 0
EmptyOrNot js = ((js ≡ []) × (is_empty js ≡ true)) ⊎ ((js ≢ []) × (is_empty js ≡ false))

empty_or_not : (js : List Job) → EmptyOrNot js
empty_or_not [] = inl (refl, refl)
empty_or_not (j ∷ js) = inr (λ e. false≢true (ap is_empty e), refl)

all_blocked : (p : Plan) (t : JobList) → Each (Blocked p t) (jobs_of t) → ¬ Movable p t
all_blocked p t h m =
    let s = m.here in
    each_at (Blocked p t) s.before s.item s.after (subst (Each (Blocked p t)) s.whole h) m.admitted

-- what each end says, case by case
abbrev Ended : Plan → JobList → ℕ → ListDrained → End → Type 0
Ended p t budget d UnsoundPlan = (¬ Sound p) × (d.moves ≡ 0) × (d.list ≡ t)
Ended p t budget d Disagreement = Sound p × (¬ Agrees p t) × (d.moves ≡ 0) × (d.list ≡ t)
Ended p t budget d Emptied = Sound p × Agrees p t × (d.moves ≤ budget) × (d.list ≡ empty_list)
Ended p t budget d OutOfBudget = Sound p × Agrees p t × (d.moves ≡ budget) × (jobs_of d.list ≢ [])
Ended p t budget d NoMove =
    Sound p
    × Agrees p t
    × (d.moves < budget)
    × (jobs_of d.list ≢ [])
    × Each (Blocked p d.list) (jobs_of d.list)

module _ (p : Plan) (t : JobList) (budget : ℕ) (d : ListDrained) where
  first_end : (end : End) → Ended p t budget d end → FirstFailure (λ (end : End). ⊥) (drain_conditions p t budget d) end
  first_end UnsoundPlan h = inl (h.0, refl)
  first_end Disagreement h = inr (h.0, inl (h.1, refl))
  first_end Emptied h = inr (h.0, inr (h.1, inl (λ left. left (ap jobs_of h.3 ∙ jobs_of_list []), (refl, h.3))))
  first_end OutOfBudget h = inr (h.0, inr (h.1, inr (h.3, inl (λ less. omega (arith, h.2), refl))))
  first_end NoMove h = inr (h.0, inr (h.1, inr (h.3, inr (h.2, inl (all_blocked p d.list h.4, refl)))))

  ended_within : (end : End) → Ended p t budget d end → d.moves ≤ budget
  ended_within UnsoundPlan h = omega (arith, h.1)
  ended_within Disagreement h = omega (arith, h.2)
  ended_within Emptied h = h.2
  ended_within OutOfBudget h = omega (arith, h.2)
  ended_within NoMove h = omega (arith, h.2)

  ended_unmoved : (end : End) → Ended p t budget d end → (¬ Sound p) ⊎ (¬ Agrees p t) → (d.moves ≡ 0) × (d.list ≡ t)
  ended_unmoved UnsoundPlan h not = (h.1, h.2)
  ended_unmoved Disagreement h not = (h.2, h.3)
  ended_unmoved Emptied h not = absurd (⊎_elim (λ n. n h.0) (λ n. n h.1) not)
  ended_unmoved OutOfBudget h not = absurd (⊎_elim (λ n. n h.0) (λ n. n h.1) not)
  ended_unmoved NoMove h not = absurd (⊎_elim (λ n. n h.0) (λ n. n h.1) not)

module _ (p : Plan) (sound : Sound p) where
  -- a drain from an agreeing table
  record AgreeingDrain (t : JobList) (budget : ℕ) (d : ListDrained) : Type 0 where
    chain : Moves p t d.moves d.list
    agrees : Agrees p d.list
    ended : Ended p t budget d d.end

  emptied_list : (t : JobList) → Agrees p t → jobs_of t ≡ [] → t ≡ empty_list
  emptied_list t agrees e = list_of_jobs p t agrees ∙ ap list_of e

  drain_of_empty : (t : JobList) (budget : ℕ) → Agrees p t → jobs_of t ≡ [] → AgreeingDrain t budget (stopped Emptied t)
  drain_of_empty t budget agrees e =
      record { chain = stay; agrees = agrees; ended = (sound, agrees, omega arith, emptied_list t agrees e) }

  -- one more move before the same end
  longer : (t u : JobList) (budget : ℕ) (d : ListDrained) (end : End) → Agrees p t → Ended p u budget d end → Agrees p u
      → Ended p t (suc budget) (one_more d) end
  longer t u budget d Emptied agrees h k = (sound, agrees, omega (arith, h.2), h.3)
  longer t u budget d UnsoundPlan agrees h k = absurd (h.0 sound)
  longer t u budget d Disagreement agrees h k = absurd (h.1 k)
  longer t u budget d OutOfBudget agrees h k = (sound, agrees, ap suc h.2, h.3)
  longer t u budget d NoMove agrees h k = (sound, agrees, omega (arith, h.2), h.3, h.4)

  drain_agreeing : (budget : ℕ) (t : JobList) → Agrees p t → AgreeingDrain t budget (drain_from p budget t)
  unfolding drain_from
  drain_agreeing zero t agrees = step (empty_or_not (jobs_of t))
    where
      step : EmptyOrNot (jobs_of t) → AgreeingDrain t 0 (drain_from p 0 t)
      step (inl h) = rw h.1 (drain_of_empty t 0 agrees h.0)
      step (inr h) = rw h.1 (record { chain = stay; agrees = agrees; ended = (sound, agrees, refl, h.0) })
  drain_agreeing (suc budget) t agrees = step (empty_or_not (jobs_of t)) (λ e. drain_agreeing budget (list_after p t e) (agrees_after p t e sound agrees))
    where
      further : Event → ListDrained
      further e = drain_from p budget (list_after p t e)

      Further : Type 0
      Further = (e : Event) → AgreeingDrain (list_after p t e) budget (further e)

      choose : (o : Option Event) → jobs_of t ≢ [] → Searched p t (jobs_of t) o → Further → AgreeingDrain t (suc budget) (go_on t further o)
      choose none left s rest = record { chain = stay; agrees = agrees; ended = (sound, agrees, omega arith, left, s) }
      choose (some e) left s rest =
          record {
            chain = move e s (rest e).chain;
            agrees = (rest e).agrees;
            ended = longer t (list_after p t e) budget (further e) (further e).end agrees (rest e).ended (agrees_after p t e sound agrees);
          }

      step : EmptyOrNot (jobs_of t) → Further → AgreeingDrain t (suc budget) (drain_from p (suc budget) t)
      step (inl h) rest = rw h.1 (drain_of_empty t (suc budget) agrees h.0)
      step (inr h) rest = rw h.1 (choose (earliest p t (jobs_of t)) h.0 (earliest_searched p t (jobs_of t)) rest)

-- the count of a chain of moves is the fall in stages still before the jobs
pub chain_count : (p : Plan) {t u : JobList} {n : ℕ} → Moves p t n u → n + stages_before p (jobs_of u) ≡ stages_before p (jobs_of t)
chain_count p stay = omega arith
chain_count p (move {t} {u} {n} e found rest) =
    omega (arith, chain_count p rest, move_count p t e (subst⁻¹ IsMove found.move (job_moves p found.here.item)) found.admitted)

-- under the upstream rule a drain with budget enough stops with no job left
module _ (p : Plan) (rule : UpstreamRule p) (t : JobList) (first : Agrees p t) (budget : ℕ) (d : ListDrained) where
  ended_empty : Agrees p d.list → d.moves + stages_before p (jobs_of d.list) ≤ budget
      → (end : End) → Ended p t budget d end → (end ≡ Emptied) × (d.list ≡ empty_list)
  ended_empty agrees enough Emptied h = (refl, h.3)
  ended_empty agrees enough UnsoundPlan h = absurd (h.0 rule.sound)
  ended_empty agrees enough Disagreement h = absurd (h.1 first)
  ended_empty agrees enough OutOfBudget h = absurd (remain (jobs_of d.list) refl)
    where
      remain : (js : List Job) → jobs_of d.list ≡ js → ⊥
      remain [] e = h.3 e
      remain (j ∷ js) e = omega (arith, ap (stages_before p) e, h.2, enough)
  ended_empty agrees enough NoMove h =
      absurd (all_blocked p d.list h.4 (movable_job p d.list rule agrees h.3))

pub drain_rule : (p : Plan) (t : JobList) (budget : ℕ) → DrainRule p t budget (list_drain p t budget)
unfolding list_drain
drain_rule p t budget = step (decides_sound p) (decides_agrees p t)
  where
    rule : (d : ListDrained) → Ended p t budget d d.end → Moves p t d.moves d.list → (Agrees p t → Agrees p d.list) → DrainRule p t budget d
    rule d h chain agrees =
        let count = chain_count p chain in
        record {
          moves = chain;
          within = ended_within p t budget d d.end h;
          stops = first_end p t budget d d.end h;
          unmoved = ended_unmoved p t budget d d.end h;
          count = count;
          empties = λ upstream a enough. ended_empty p upstream t a budget d (agrees a) (omega arith) d.end h;
        }

    step : {a b : Bool} → Decides (Sound p) a → Decides (Agrees p t) b
        → DrainRule p t budget (cond a (cond b (drain_from p budget t) (stopped Disagreement t)) (stopped UnsoundPlan t))
    step (failing h) d = rule (stopped UnsoundPlan t) (h, refl, refl) stay (λ a. a)
    step (holding h) (failing k) = rule (stopped Disagreement t) (h, k, refl, refl) stay (λ a. a)
    step (holding h) (holding k) =
        let r = drain_agreeing p h budget t k in
        rule (drain_from p budget t) r.ended r.chain (λ _. r.agrees)
