-- The replies to counted lines, line by line: a malformed line leaves the table and says 41, which no answer to an event is; so
-- what the others say are the answers of a run of the events.
use Prim.Native.Nat.{ℕ, ◌+◌}
use native.Mathlib.Omega.{arith}
use mathlib.Core.Bool.{false, cond}
use mathlib.Core.List.{List, [], ◌∷◌, ◌++◌, map}
use mathlib.Core.Option.{Option, none, some}
use mathlib.Core.Path.{◌≡◌, refl, sym, ap}
use lib.Dec.{eqb}
use lib.ListN.{length}
use Rattle.model.specs.declared.Plan.{Plan}
use Rattle.events.specs.Events.{answer, list_after, answer_numbers}
use Rattle.events.specs.JobList.{empty_list}
use Rattle.events.specs.declared.JobList.{JobList}
use Rattle.events.specs.declared.Event.{Event}
use Rattle.events.specs.declared.Answer.{Answer}
use Rattle.events.specs.declared.Answer.TheVariants.{Admitted, UnsoundPlan, Disagreement, BadNumber, WrongActivity}
use Rattle.events.specs.declared.Answer.TheVariants.{UnknownType, Full, WrongStage, OverCapacity, RowBroken}
use Rattle.emptying.specs.Run.{list_after_all, answers, admitted_count}
use Rattle.moves_text.specs.EventLines.{counted_in, events_in}
use Rattle.moves_text.specs.OutputLines.{list_after_line}
use Rattle.moves_text.specs.Output.{Reply, reply_to, replies_to}
use Rattle.moves_text.specs.PrintedRule.{said, admitted_replies, last_active}
use Rattle.plan_text.specs.Reading.{reading}
use Rattle.moves_text.specs.Division.{plan_part, event_part}

-- the replies to the counted lines of an input
abbrev pub replies_in : List ℕ → List Reply
replies_in input = replies_to (reading (plan_part input)).plan empty_list (counted_in (event_part input))

-- first some lines, then others
pub events_parts : (xs ys : List (Option Event)) → events_in (xs ++ ys) ≡ events_in xs ++ events_in ys
events_parts [] ys = refl
events_parts (none ∷ xs) ys = events_parts xs ys
events_parts (some e ∷ xs) ys = ap (λ es. e ∷ es) (events_parts xs ys)

-- no event is answered 41
no_malformed : (a : Answer) → eqb (answer_numbers a).0 41 ≡ false
no_malformed Admitted = refl
no_malformed UnsoundPlan = refl
no_malformed Disagreement = refl
no_malformed BadNumber = refl
no_malformed WrongActivity = refl
no_malformed UnknownType = refl
no_malformed Full = refl
no_malformed WrongStage = refl
no_malformed (OverCapacity r) = refl
no_malformed (RowBroken w) = refl

module _ (p : Plan) where
  pub list_parts : (t : JobList) (es fs : List Event) → list_after_all p t (es ++ fs) ≡ list_after_all p (list_after_all p t es) fs
  list_parts t [] fs = refl
  list_parts t (e ∷ es) fs = list_parts (list_after p t e) es fs

  -- the table after a line, and after more
  pub list_after_lem : (t : JobList) (l : Option Event) (ls : List (Option Event))
      → list_after_all p t (events_in (l ∷ ls)) ≡ list_after_all p (list_after_line p t l) (events_in ls)
  list_after_lem t none ls = refl
  list_after_lem t (some e) ls = refl

  pub replies_parts : (t : JobList) (xs ys : List (Option Event))
      → replies_to p t (xs ++ ys) ≡ replies_to p t xs ++ replies_to p (list_after_all p t (events_in xs)) ys
  replies_parts t [] ys = refl
  replies_parts t (l ∷ xs) ys =
      rw (list_after_lem t l xs) (ap (λ rs. reply_to p t l ∷ rs) (replies_parts (list_after_line p t l) xs ys))

  -- one reply to each line
  pub replies_length : (t : JobList) (ls : List (Option Event)) → length (replies_to p t ls) ≡ length ls
  replies_length t [] = refl
  replies_length t (l ∷ ls) = omega (arith, replies_length (list_after_line p t l) ls)

  pub answers_printed : (t : JobList) (ls : List (Option Event))
      → said (replies_to p t ls) ≡ map answer_numbers (answers p t (events_in ls))
  answers_printed t [] = refl
  answers_printed t (none ∷ ls) = answers_printed t ls
  answers_printed t (some e ∷ ls) =
      rw (no_malformed (answer p t e)) (ap (λ ns. answer_numbers (answer p t e) ∷ ns) (answers_printed (list_after p t e) ls))

  pub zeros_admitted : (t : JobList) (ls : List (Option Event)) → admitted_replies (replies_to p t ls) ≡ admitted_count (answers p t (events_in ls))
  zeros_admitted t [] = refl
  zeros_admitted t (none ∷ ls) = omega (arith, zeros_admitted t ls)
  zeros_admitted t (some e ∷ ls) =
      ap (λ n. cond (eqb (answer_numbers (answer p t e)).0 0) 1 0 + n) (zeros_admitted (list_after p t e) ls)

  -- the last line has the jobs that the table holds after all; without a line, a table that holds none
  last_later : (t : JobList) (l : Option Event) (ls : List (Option Event))
      → last_active (replies_to p t (l ∷ ls)) ≡ (list_after_all p t (events_in (l ∷ ls))).count
  last_later t l [] = rw (list_after_lem t l []) refl
  last_later t l (m ∷ ls) = rw (list_after_lem t l (m ∷ ls)) (last_later (list_after_line p t l) m ls)

  pub active_last : (t : JobList) (ls : List (Option Event)) → t.count ≡ 0
      → last_active (replies_to p t ls) ≡ (list_after_all p t (events_in ls)).count
  active_last t [] empty = sym empty
  active_last t (l ∷ ls) empty = last_later t l ls
