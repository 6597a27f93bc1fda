-- An event, a drain and a list of events at a cell are those at its plan and its table, so what the emptying theorem says of the one holds of the other.
use Prim.Native.Nat.{ℕ, zero, suc, ◌+◌, ◌-◌, ◌≤◌, ◌<◌}
use native.Mathlib.Omega.{arith}
use mathlib.Core.Bool.{false, cond}
use mathlib.Core.List.{List, [], ◌∷◌}
use mathlib.Core.Logic.{inl, inr, ⊎_elim}
use mathlib.Core.Path.{◌≡◌, refl, sym, ap, subst, ◌∙◌}
use lib.Dec.{eqb}
use lib.ListN.{length, replicate}
use Rattle.model.specs.Limits.{max_jobs}
use Rattle.model.specs.Numbers.{Each}
use Rattle.model.specs.Jobs.{no_job, Numbered, AtStage}
use Rattle.model.specs.Soundness.{Sound}
use Rattle.model.specs.declared.Plan.{Plan}
use Rattle.model.specs.declared.Job.{Job}
use Rattle.model.specs.declared.Check.{Check}
use Rattle.model.specs.declared.Check.TheVariants as checks
use Rattle.model.specs.declared.Check.TheVariants.{Meets, NoRank, NotOneUnit, RowCount, WrongWeight, WrongBound}
use Rattle.model.specs.Upstream.{check}
use Rattle.model.proofs.Decide.{fails, decided, decides_eq, decides_le}
use Rattle.model.proofs.Soundness.{decides_sound}
use Rattle.model.proofs.Lists.{each_map, each_both, append_each}
use Rattle.events.specs.JobList.{jobs_of, list_of, Agrees}
use Rattle.events.specs.Events.{is_admitted, list_after}
use Rattle.events.specs.Drain.{Moves, stay, move, DrainRule}
use Rattle.events.specs.declared.Event.{Event}
use Rattle.events.specs.declared.ListDrained.{ListDrained}
use Rattle.events.specs.declared.JobList.{JobList}
use Rattle.events.specs.declared.Answer.{Answer}
use Rattle.events.specs.declared.Answer.TheVariants.{Admitted, UnsoundPlan, Disagreement, BadNumber, WrongActivity}
use Rattle.events.specs.declared.Answer.TheVariants.{UnknownType, Full, WrongStage, OverCapacity, RowBroken}
use Rattle.events.proofs.Answers.{admitted_or_not, admitted_holds, list_refused, agrees_after}
use Rattle.events.proofs.Drain.{drain_rule}
use Rattle.events.proofs.JobLists.{list_of_jobs, decides_agrees}
use Rattle.emptying.specs.Run.{list_after_all, answers, admitted_count, run}
use Rattle.emptying.specs.Emptying.{start, EmptyingRule}
use Rattle.emptying.proofs.Emptying.{emptying_passed}
use Rattle.cell_layout.specs.Layout.{cell_size, plan_in, list_in, with_list}
use Rattle.cell_layout.specs.Fitting.{JobFits, ListFits}
use Rattle.cell_layout.specs.HostAnswers.{packed, packed_check, packed_answer, cell_answer, cell_drain, event_answer, event_cell, drain_cell, cell_after_all, event_answers, admitted_answers}
use Rattle.cell_layout.specs.HostRule.{HostRule, HostTheorem}
use Rattle.cell_layout.proofs.HostAnswers.{no_check, checked, event_answered, event_refused, event_admitted, drain_still, drain_moved}
use Rattle.cell_layout.proofs.ReadBack.{list_room, plan_kept, list_back}

-- a table that agrees with a sound plan fits
none_fit : (n : ℕ) → Each JobFits (replicate n no_job)
none_fit zero = tt
none_fit (suc n) = ((omega arith, omega arith, omega arith), none_fit n)

agreeing_fits : (p : Plan) (t : JobList) → Sound p → Agrees p t → ListFits t
unfolding list_of
agreeing_fits p t sound h = record { count = omega (arith, h.few); slots = h.slots; jobs = subst (λ u. Each JobFits u.jobs) (sym (list_of_jobs p t h)) both }
  where
    fit : (j : Job) → Numbered j × AtStage p j → JobFits j
    fit j k = (omega (arith, k.0), omega (arith, k.1.0, sound.types), omega (arith, k.1.1, sound.lengths j.kind k.1.0))

    held : Each JobFits (jobs_of t)
    held = each_map (λ (j : Job). Numbered j × AtStage p j) JobFits fit (jobs_of t) (each_both Numbered (AtStage p) (jobs_of t) h.jobs.numbered h.jobs.staged)

    both : Each JobFits (list_of (jobs_of t)).jobs
    both = append_each JobFits (jobs_of t) (replicate (max_jobs - length (jobs_of t)) no_job) held (none_fit (max_jobs - length (jobs_of t)))

-- one event: the plan stays, and the list is the one that the event leads to
pub record CellFollows (bytes next : List ℕ) (list : JobList) : Type 0 where
  pub room : length next ≡ length bytes
  pub plan : plan_in next ≡ plan_in bytes
  pub left : list_in next ≡ list

cell_follows : (bytes : List ℕ) → cell_size ≤ length bytes → (l : JobList) → ListFits l → CellFollows bytes (with_list l bytes) l
cell_follows bytes h l fits = record { room = list_room bytes h l; plan = plan_kept bytes h l; left = list_back bytes h l fits }

module _ (bytes : List ℕ) (h : cell_size ≤ length bytes) (e : Event) where
  abbrev list : JobList
  list = list_after (plan_in bytes) (list_in bytes) e

  pub event_follows : CellFollows bytes (event_cell bytes e) list
  event_follows = ⊎_elim admitted refused (admitted_or_not (cell_answer bytes e))
    where
      admitted : cell_answer bytes e ≡ Admitted → CellFollows bytes (event_cell bytes e) list
      admitted a =
          let c = admitted_holds (plan_in bytes) (list_in bytes) e a in
          let fits = agreeing_fits (plan_in bytes) list c.0 (agrees_after (plan_in bytes) (list_in bytes) e c.0 c.1.0) in
          subst (λ next. CellFollows bytes next list) (event_admitted bytes h e a).1 (cell_follows bytes h list fits)

      refused : is_admitted (cell_answer bytes e) ≡ false → CellFollows bytes (event_cell bytes e) list
      refused r =
          subst (λ next. CellFollows bytes next list) (event_refused bytes h e r).1
          (record { room = refl; plan = refl; left = sym (list_refused (plan_in bytes) (list_in bytes) e r) })

-- a drain: its moves keep agreement, so the list that it ends with fits
moves_agree : (p : Plan) → Sound p → {t u : JobList} {n : ℕ} → Moves p t n u → Agrees p t → Agrees p u
moves_agree p sound stay h = h
moves_agree p sound (move {t} e first rest) h = moves_agree p sound rest (agrees_after p t e sound h)

none_made : (p : Plan) {t u : JobList} {n : ℕ} → Moves p t n u → n ≤ 0 → t ≡ u
none_made p stay h = refl
none_made p (move e first rest) h = absurd (omega arith)

pub drain_follows : (bytes : List ℕ) → cell_size ≤ length bytes → (budget : ℕ) → CellFollows bytes (drain_cell bytes budget) (cell_drain bytes budget).list
drain_follows bytes h budget = ⊎_elim moved still (decided (decides_le 1 d.moves))
  where
    d : ListDrained
    d = cell_drain bytes budget

    rule : DrainRule (plan_in bytes) (list_in bytes) budget d
    rule = drain_rule (plan_in bytes) (list_in bytes) budget

    moved : 1 ≤ d.moves → CellFollows bytes (drain_cell bytes budget) d.list
    moved some =
        let sound = ⊎_elim (λ s. s) (λ no. absurd (omega (arith, (rule.unmoved (inl no)).0))) (decided (decides_sound (plan_in bytes))) in
        let agrees = ⊎_elim (λ s. s) (λ no. absurd (omega (arith, (rule.unmoved (inr no)).0))) (decided (decides_agrees (plan_in bytes) (list_in bytes))) in
        let fits = agreeing_fits (plan_in bytes) d.list sound (moves_agree (plan_in bytes) sound rule.moves agrees) in
        subst (λ next. CellFollows bytes next d.list) (drain_moved bytes h budget some).1 (cell_follows bytes h d.list fits)

    still : ¬ (1 ≤ d.moves) → CellFollows bytes (drain_cell bytes budget) d.list
    still none =
        subst (λ next. CellFollows bytes next d.list) (drain_still bytes h budget (omega arith)).1
        (record { room = refl; plan = refl; left = none_made (plan_in bytes) rule.moves (omega arith) })

-- a whole list of them
pub events_follow : (bytes : List ℕ) → cell_size ≤ length bytes → (es : List Event)
    → CellFollows bytes (cell_after_all bytes es) (list_after_all (plan_in bytes) (list_in bytes) es)
events_follow bytes h [] = record { room = refl; plan = refl; left = refl }
events_follow bytes h (e ∷ es) =
    let one = event_follows bytes h e in
    let rest = events_follow (event_cell bytes e) (omega (arith, one.room)) es in
    record {
      room = rest.room ∙ one.room;
      plan = rest.plan ∙ one.plan;
      left = rest.left ∙ ap (λ q. list_after_all q (list_in (event_cell bytes e)) es) one.plan ∙ ap (λ l. list_after_all (plan_in bytes) l es) one.left;
    }

-- an answer is 0 exactly where it is the acceptance
packed_zero : (number place : ℕ) → 0 < number → eqb (packed number place 0) 0 ≡ eqb number 0
packed_zero number place some =
    fails (decides_eq (packed number place 0) 0) (λ e. absurd (omega (arith, e))) ∙ sym (fails (decides_eq number 0) (λ e. absurd (omega (arith, e))))

zero_admitted : (a : Answer) → eqb (packed_answer a) 0 ≡ is_admitted a
zero_admitted Admitted = refl
zero_admitted UnsoundPlan = refl
zero_admitted Disagreement = refl
zero_admitted BadNumber = refl
zero_admitted WrongActivity = refl
zero_admitted UnknownType = refl
zero_admitted Full = refl
zero_admitted WrongStage = refl
zero_admitted (OverCapacity r) = packed_zero 18 r (omega arith)
zero_admitted (RowBroken w) = packed_zero 19 w (omega arith)

pub zeros_admitted : (bytes : List ℕ) → cell_size ≤ length bytes → (es : List Event)
    → admitted_answers (event_answers bytes es) ≡ admitted_count (answers (plan_in bytes) (list_in bytes) es)
zeros_admitted bytes h [] = refl
zeros_admitted bytes h (e ∷ es) =
    let one = event_follows bytes h e in
    let first : eqb (event_answer bytes e) 0 ≡ is_admitted (cell_answer bytes e) = ap (λ n. eqb n 0) (event_answered bytes h e) ∙ zero_admitted (cell_answer bytes e) in
    let rest = zeros_admitted (event_cell bytes e) (omega (arith, one.room)) es in
    ap (λ b. cond b 1 0 + admitted_answers (event_answers (event_cell bytes e) es)) first
    ∙ ap (λ k. cond (is_admitted (cell_answer bytes e)) 1 0 + k)
    (rest
    ∙ ap (λ q. admitted_count (answers q (list_in (event_cell bytes e)) es)) one.plan
    ∙ ap (λ l. admitted_count (answers (plan_in bytes) l es)) one.left)

-- what an answer of 0 to the check says
check_zero : (c : Check) → packed_check c ≡ 0 → c ≡ Meets
check_zero Meets h = refl
check_zero checks.UnsoundPlan h = absurd (omega (arith, h))
check_zero NoRank h = absurd (omega (arith, h))
check_zero (NotOneUnit t k) h = absurd (omega (arith, h))
check_zero RowCount h = absurd (omega (arith, h))
check_zero (WrongWeight r) h = absurd (omega (arith, h))
check_zero (WrongBound r) h = absurd (omega (arith, h))

pub host_theorem : HostTheorem
host_theorem bytes passed empty events moves are = ⊎_elim cell (λ few. absurd (omega (arith, passed, no_check bytes (omega arith)))) (decided (decides_le cell_size (length bytes)))
  where
    cell : cell_size ≤ length bytes → HostRule bytes events moves
    cell h =
        let p = plan_in bytes in
        let meets = check_zero (check p) (checked bytes h ∙ passed) in
        let first = events_follow bytes h events in
        let second = events_follow (cell_after_all bytes events) (omega (arith, first.room)) moves in
        let between = first.left ∙ ap (λ l. list_after_all p l events) empty in
        let made = zeros_admitted (cell_after_all bytes events) (omega (arith, first.room)) moves in
        let same = ap (λ q. admitted_count (answers q (list_in (cell_after_all bytes events)) moves)) first.plan ∙ ap (λ l. admitted_count (answers p l moves)) between in
        record {
          between = between;
          end = second.left ∙ ap (λ q. list_after_all q (list_in (cell_after_all bytes events)) moves) first.plan ∙ ap (λ l. list_after_all p l moves) between;
          rule = subst (EmptyingRule p (run p start events) (run p (run p start events) moves)) (sym (made ∙ same)) (emptying_passed p meets events moves are);
        }
