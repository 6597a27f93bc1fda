-- Document 01's starred runs, as rows of one table: what is asked, and the numbers that the paper gives for it. With them the
-- crossing plan's text, where the part that a refusal shows stands, the whole run, as events and from bytes to bytes, a number used again after its unload, both sides of
-- the largest number, the pulls of change request S-1, with what the ledger holds before and after one, and the row that 19 names
-- by change request S-2; and by S-3 the crossing plan written and printed again, buffers that fit and one a byte short, zeros, a refused text and an unsound plan.
use Rattle.std.specs.Prelude.{ℕ, zero, suc, List, [], ◌∷◌, ◌++◌, map, replicate}
use Rattle.model.specs.Plan.{empty_plan}
use Rattle.model.specs.Upstream.{check, check_numbers}
use Rattle.model.specs.Jobs.{row_sum, worst_row}
use Rattle.model.specs.declared.Plan.{Plan}
use Rattle.model.specs.declared.Job.{Job}
use Rattle.events.specs.JobList.{list_of, jobs_of, empty_list}
use Rattle.events.specs.Events.{answer, list_after, answer_numbers}
use Rattle.events.specs.Drain.{list_drain, end_number, stages_before}
use Rattle.events.specs.declared.JobList.{JobList}
use Rattle.events.specs.declared.Event.{Event}
use Rattle.events.specs.declared.Event.TheVariants.{Load, Advance, Unload, Pull}
use Rattle.emptying.specs.Run.{run, answers, admitted_count}
use Rattle.emptying.specs.Emptying.{start}
use Rattle.plan_text.specs.TextQuestions.{text_number}
use Rattle.plan_text.specs.Reading.{reading}
use Rattle.moves_text.specs.Quoted.{quoted}
use Rattle.moves_text.specs.Output.{output}
use Rattle.canonical_text.specs.Writing.{write_number, writing, buffer_after}
use Rattle.canonical_text.specs.CanonicalOutput.{canonical_output}
use Rattle.worked.specs.Texts.{capacity_text, large_capacity_text, stages_text, more_stages_text, repeated_text, unfinished_text, crossing_text, shuffled_text, one_stage_text, whole_input, whole_output, pull_input, pull_output, plan_numbers}
use Rattle.worked.specs.Plans.{crossing_with, crossing_plan, equation40, without_rows, one_station, one_stage, jobs_per_stage}

-- what is asked
pub data Run : Type 0 where
  read : List ℕ → Run
  shown : List ℕ → Run
  planned : List ℕ → Run
  checked : Plan → Run
  weighed : Plan → List Job → Run
  drained : Plan → List Job → ℕ → Run
  answered : Plan → List Job → Event → Run
  followed : Plan → List Event → Run
  booked : Plan → List Event → Run
  printed : List ℕ → Run
  written_into : Plan → ℕ → Run
  printed_again : List ℕ → Run

-- the list f 1, .., f n
up_to : ℕ → (ℕ → ℕ) → List ℕ
up_to zero f = []
up_to (suc n) f = up_to n f ++ f (suc n) ∷ []

stages_of : List Job → List ℕ
stages_of js = map (λ (j : Job). j.stage) js

-- of each event its answer, its place and the jobs active afterwards
lines : Plan → JobList → List Event → List ℕ
lines p t [] = []
lines p t (e ∷ es) =
    let a = answer_numbers (answer p t e) in
    let next = list_after p t e in
    a.0 ∷ a.1 ∷ next.count ∷ lines p next es

-- the numbers that the definitions give: of a text its answer and line, with them where the part that is shown begins and ends, or all numbers of its plan; of a check its answer and
-- two places; of jobs against the rows each row's sum, the row exceeded by the most and its excess; of a drain its answer and moves, of an event its
-- answer and place, both with the stages at which the jobs then stand; of events from the empty table the lines above, or the ledger: the
-- units taken and given back of each resource, the stages still before its jobs, and the events admitted; of an input of `cellmoves`
-- the bytes that it prints; of a plan that is written into so many bytes of 46 its answer and length, and the bytes then; of a text the
-- bytes that `cellplan` prints
unfoldable pub result : Run → List ℕ
unfolding up_to stages_of lines
result (read text) = let r = reading text in text_number r.answer ∷ r.line ∷ []
result (shown text) = let r = reading text in text_number r.answer ∷ r.line ∷ r.from ∷ r.to ∷ []
result (planned text) = plan_numbers (reading text).plan
result (checked p) = let c = check_numbers (check p) in c.0 ∷ c.1 ∷ c.2 ∷ []
result (weighed p js) = up_to p.rows (λ w. row_sum p w js) ++ (worst_row p js).0 ∷ (worst_row p js).1 ∷ []
result (drained p js budget) =
    let d = list_drain p (list_of js) budget in
    end_number d.end ∷ d.moves ∷ stages_of (jobs_of d.list)
result (answered p js e) =
    let a = answer_numbers (answer p (list_of js) e) in
    a.0 ∷ a.1 ∷ stages_of (jobs_of (list_after p (list_of js) e))
result (followed p es) = lines p empty_list es
result (booked p es) =
    let l = (run p start es).ledger in
    up_to p.resources l.taken
    ++ up_to p.resources l.given
    ++ stages_before p l.jobs
    ∷ admitted_count (answers p empty_list es)
    ∷ []
result (printed input) = output input
result (written_into p room) =
    let buffer : List ℕ = replicate room 46 in
    write_number (writing p buffer).answer ∷ (writing p buffer).length ∷ buffer_after p buffer
result (printed_again text) = canonical_output text

pub record Row : Type 0 where
  pub asked : Run
  pub expected : List ℕ

row : Run → List ℕ → Row
row r xs = record { asked = r; expected = xs }

-- the events of the whole run
whole_run : List Event
whole_run = Load 7 1 ∷ Load 8 2 ∷ Advance 7 ∷ Load 8 2 ∷ Advance 7 ∷ Load 8 2 ∷ Unload 7 ∷ Load 8 2 ∷ []

-- a job pulled in mid-route, and its number used again; pulled at its last stage, where it held what a load was refused for
pull_run : List Event
pull_run = Load 8 2 ∷ Advance 8 ∷ Pull 8 ∷ Load 8 2 ∷ Advance 8 ∷ Advance 8 ∷ Load 7 1 ∷ Pull 8 ∷ Load 7 1 ∷ []

-- two jobs of type 2 at stage 2 and one at stage 1 leave rows 1 and 3 of Equation 40 no room; a load of type 1 exceeds row 1 by 1 and row 3 by 2
excess_run : List Event
excess_run = Load 1 2 ∷ Advance 1 ∷ Load 2 2 ∷ Advance 2 ∷ Load 3 2 ∷ Load 4 1 ∷ []

-- in document 01's order: the texts, the upstream check, the rows of Equation 40, the drains, the advance within one station; then the
-- further runs
unfoldable pub rows : List Row
unfolding row whole_run pull_run excess_run
rows =
    row (read []) (7 ∷ 1 ∷ [])
    ∷ row (read capacity_text) (7 ∷ 3 ∷ [])
    ∷ row (read large_capacity_text) (5 ∷ 2 ∷ [])
    ∷ row (read stages_text) (7 ∷ 7 ∷ [])
    ∷ row (read more_stages_text) (5 ∷ 7 ∷ [])
    ∷ row (read crossing_text) (0 ∷ 0 ∷ [])
    ∷ row (shown repeated_text) (6 ∷ 3 ∷ 14 ∷ 19 ∷ [])
    ∷ row (shown unfinished_text) (7 ∷ 5 ∷ 0 ∷ 0 ∷ [])
    ∷ row (planned crossing_text) (plan_numbers crossing_plan)
    ∷ row (checked crossing_plan) (0 ∷ 0 ∷ 0 ∷ [])
    ∷ row (checked (crossing_with 2 0)) (25 ∷ 2 ∷ 0 ∷ [])
    ∷ row (checked (crossing_with 1 1)) (24 ∷ 1 ∷ 0 ∷ [])
    ∷ row (weighed equation40 (jobs_per_stage 1 0 0 1 1 0)) (4 ∷ 2 ∷ 7 ∷ 0 ∷ 0 ∷ [])
    ∷ row (weighed equation40 (jobs_per_stage 1 1 0 1 1 0)) (4 ∷ 3 ∷ 9 ∷ 3 ∷ 1 ∷ [])
    ∷ row (weighed equation40 (jobs_per_stage 1 2 0 1 0 0)) (1 ∷ 4 ∷ 8 ∷ 2 ∷ 1 ∷ [])
    ∷ row (weighed equation40 (jobs_per_stage 1 0 0 0 2 0)) (7 ∷ 0 ∷ 8 ∷ 1 ∷ 1 ∷ [])
    ∷ row (drained crossing_plan (jobs_per_stage 1 0 0 0 0 0) 2) (31 ∷ 2 ∷ 3 ∷ [])
    ∷ row (drained crossing_plan (jobs_per_stage 1 0 0 0 0 0) 3) (0 ∷ 3 ∷ [])
    ∷ row (drained crossing_plan [] 0) (0 ∷ 0 ∷ [])
    ∷ row (drained without_rows (jobs_per_stage 1 1 0 1 1 0) 5) (32 ∷ 0 ∷ 1 ∷ 2 ∷ 1 ∷ 2 ∷ [])
    ∷ row (answered one_station (jobs_per_stage 1 0 0 0 0 0) (Advance 1)) (0 ∷ 0 ∷ 2 ∷ [])
    ∷ row (followed one_station (Load 7 1 ∷ Advance 7 ∷ Unload 7 ∷ Load 7 1 ∷ [])) (0 ∷ 0 ∷ 1 ∷ 0 ∷ 0 ∷ 1 ∷ 0 ∷ 0 ∷ 0 ∷ 0 ∷ 0 ∷ 1 ∷ [])
    ∷ row (followed one_station (Load 65536 1 ∷ Load 65535 1 ∷ [])) (13 ∷ 0 ∷ 0 ∷ 0 ∷ 0 ∷ 1 ∷ [])
    ∷ row (followed crossing_plan whole_run)
    (0 ∷ 0 ∷ 1 ∷ 19 ∷ 2 ∷ 1 ∷ 0 ∷ 0 ∷ 1 ∷ 19 ∷ 2 ∷ 1 ∷ 0 ∷ 0 ∷ 1 ∷ 18 ∷ 3 ∷ 1 ∷ 0 ∷ 0 ∷ 0 ∷ 0 ∷ 0 ∷ 1 ∷ [])
    ∷ row (printed whole_input) whole_output
    ∷ row (printed pull_input) pull_output
    ∷ row (followed crossing_plan pull_run)
    (0 ∷ 0 ∷ 1 ∷ 0 ∷ 0 ∷ 1 ∷ 0 ∷ 0 ∷ 0 ∷ 0 ∷ 0 ∷ 1 ∷ 0 ∷ 0 ∷ 1 ∷ 0 ∷ 0 ∷ 1 ∷ 18 ∷ 1 ∷ 1 ∷ 0 ∷ 0 ∷ 0 ∷ 0 ∷ 0 ∷ 1 ∷ [])
    ∷ row (answered without_rows (jobs_per_stage 1 1 0 1 1 0) (Pull 11)) (0 ∷ 0 ∷ 1 ∷ 1 ∷ 2 ∷ [])
    ∷ row (booked crossing_plan (Load 8 2 ∷ Advance 8 ∷ [])) (0 ∷ 1 ∷ 1 ∷ 0 ∷ 0 ∷ 1 ∷ 2 ∷ 2 ∷ [])
    ∷ row (booked crossing_plan (Load 8 2 ∷ Advance 8 ∷ Pull 8 ∷ [])) (0 ∷ 1 ∷ 1 ∷ 0 ∷ 1 ∷ 1 ∷ 0 ∷ 3 ∷ [])
    ∷ row (weighed equation40 (jobs_per_stage 0 0 0 0 3 0)) (9 ∷ 0 ∷ 9 ∷ 1 ∷ 3 ∷ [])
    ∷ row (weighed equation40 (jobs_per_stage 1 1 0 0 2 0)) (7 ∷ 1 ∷ 10 ∷ 3 ∷ 2 ∷ [])
    ∷ row (weighed equation40 (jobs_per_stage 0 2 0 1 1 0)) (3 ∷ 4 ∷ 9 ∷ 2 ∷ 1 ∷ [])
    ∷ row (weighed equation40 (jobs_per_stage 0 4 0 3 0 0)) (0 ∷ 10 ∷ 14 ∷ 2 ∷ 7 ∷ [])
    ∷ row (weighed equation40 (jobs_per_stage 1 2 0 1 2 0)) (7 ∷ 4 ∷ 14 ∷ 3 ∷ 6 ∷ [])
    ∷ row (weighed (one_stage (1 ∷ 0 ∷ []) (255 ∷ 255 ∷ [])) (jobs_per_stage 64 0 0 0 0 0)) (16320 ∷ 16320 ∷ 2 ∷ 16320 ∷ [])
    ∷ row (followed equation40 excess_run) (0 ∷ 0 ∷ 1 ∷ 0 ∷ 0 ∷ 1 ∷ 0 ∷ 0 ∷ 2 ∷ 0 ∷ 0 ∷ 2 ∷ 0 ∷ 0 ∷ 3 ∷ 19 ∷ 3 ∷ 3 ∷ [])
    ∷ row (answered (one_stage (1 ∷ 1 ∷ []) (4 ∷ 2 ∷ [])) [] (Load 1 1)) (19 ∷ 1 ∷ [])
    ∷ row (answered (one_stage (1 ∷ 1 ∷ []) (2 ∷ 4 ∷ [])) [] (Load 1 1)) (19 ∷ 2 ∷ [])
    ∷ row (answered (one_stage (1 ∷ 2 ∷ []) (3 ∷ 4 ∷ [])) [] (Load 1 1)) (19 ∷ 1 ∷ [])
    ∷ row (answered (one_stage (5 ∷ 0 ∷ []) (7 ∷ 3 ∷ [])) [] (Load 1 1)) (19 ∷ 2 ∷ [])
    ∷ row (answered (one_stage (1 ∷ 1 ∷ 1 ∷ []) (2 ∷ 4 ∷ 3 ∷ [])) [] (Load 1 1)) (19 ∷ 2 ∷ [])
    ∷ row (answered (one_stage (0 ∷ 0 ∷ []) (254 ∷ 255 ∷ [])) [] (Load 1 1)) (19 ∷ 2 ∷ [])
    ∷ row (printed_again crossing_text) crossing_text
    ∷ row (printed_again shuffled_text) crossing_text
    ∷ row (printed_again capacity_text) (quoted "P\t7\t3\n")
    ∷ row (written_into crossing_plan 214) (0 ∷ 214 ∷ crossing_text)
    ∷ row (written_into crossing_plan 216) (0 ∷ 214 ∷ crossing_text ++ 46 ∷ 46 ∷ [])
    ∷ row (written_into crossing_plan 213) (9 ∷ 0 ∷ replicate 213 46)
    ∷ row (written_into (one_stage (10 ∷ 0 ∷ []) (0 ∷ 255 ∷ [])) 57) (0 ∷ 57 ∷ one_stage_text)
    ∷ row (written_into empty_plan 2) (11 ∷ 0 ∷ 46 ∷ 46 ∷ [])
    ∷ row (written_into empty_plan 0) (11 ∷ 0 ∷ [])
    ∷ []
