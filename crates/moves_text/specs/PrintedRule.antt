-- The emptying theorem of what is printed: an input whose `Q` line says 0, and any division of its counted lines into first ones
-- and last ones that move.
use Rattle.std.specs.Prelude.{ℕ, ◌+◌, cond, List, [], ◌∷◌, ◌++◌, map, ◌≡◌, eqb, length}
use Rattle.std.proofs.Math.Option.{Option}
use Rattle.model.specs.Numbers.{Each}
use Rattle.model.specs.declared.Plan.{Plan}
use Rattle.events.specs.JobList.{empty_list}
use Rattle.events.specs.Events.{IsMove, answer_numbers}
use Rattle.events.specs.declared.Event.{Event}
use Rattle.emptying.specs.Run.{run, answers}
use Rattle.emptying.specs.Emptying.{start, EmptyingRule}
use Rattle.plan_text.specs.Reading.{reading}
use Rattle.moves_text.specs.Quoted.{quoted}
use Rattle.moves_text.specs.Division.{plan_part, event_part}
use Rattle.moves_text.specs.EventLines.{counted_in, events_in}
use Rattle.moves_text.specs.OutputLines.{malformed}
use Rattle.moves_text.specs.Output.{Reply, printed_from, output}

-- the plan is accepted and meets the upstream rule
abbrev pub met_lines : List ℕ
met_lines = quoted "P\t0\t0\nQ\t0\t0\t0\n"

-- the numbers and places that the lines say, without those that say 41 (`malformed`): the answers to the well-formed lines
abbrev pub said : List Reply → List (ℕ × ℕ)
said [] = []
said (r ∷ rs) = cond (eqb r.number malformed) (said rs) ((r.number, r.place) ∷ said rs)

-- how many lines say 0, and the jobs active in the last
abbrev pub admitted_replies : List Reply → ℕ
admitted_replies [] = 0
admitted_replies (r ∷ rs) = cond (eqb r.number 0) 1 0 + admitted_replies rs

abbrev pub last_active : List Reply → ℕ
last_active [] = 0
last_active (r ∷ []) = r.active
last_active (r ∷ q ∷ rs) = last_active (q ∷ rs)

-- the lines printed are those of the theorem's states: the answers printed are those of its run, the moves that it counts are the
-- lines that say 0, and the jobs of its ledger are as many as the last line has active. No other replies have these bytes
-- (`printed_once`)
pub record PrintedRule (out : List ℕ) (p : Plan) (first last : List (Option Event)) : Type 0 where
  pub early : List Reply
  pub late : List Reply
  pub printed : out ≡ met_lines ++ printed_from 1 (early ++ late)
  pub early_each : length early ≡ length first
  pub late_each : length late ≡ length last
  pub answered : said (early ++ late) ≡ map answer_numbers (answers p empty_list (events_in (first ++ last)))
  pub rule : let between = run p start (events_in first) in EmptyingRule p between (run p between (events_in last)) (admitted_replies late)
  pub active : last_active (early ++ late) ≡ length (run p (run p start (events_in first)) (events_in last)).ledger.jobs

abbrev pub PrintedTheorem : Type 0
PrintedTheorem =
    (input rest : List ℕ) → output input ≡ met_lines ++ rest
    → (first last : List (Option Event)) → counted_in (event_part input) ≡ first ++ last → Each IsMove (events_in last)
    → PrintedRule (output input) (reading (plan_part input)).plan first last
