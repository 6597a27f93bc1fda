-- The emptying theorem of what is printed: the bytes of the first two lines say that the plan was accepted and meets the upstream
-- rule, and the replies are those of the theorem's run.
use Prim.Native.Nat.{ℕ}
use native.Mathlib.Omega.{arith}
use mathlib.Core.Bool.{Bool, true, false, cond}
use mathlib.Core.List.{List, [], ◌++◌, map}
use mathlib.Core.Path.{◌≡◌, refl, sym, ap, ◌∙◌}
use lib.Dec.{leb}
use lib.ListN.{length, get_or}
use Rattle.model.specs.Upstream.{check, check_numbers}
use Rattle.model.specs.declared.Plan.{Plan}
use Rattle.model.specs.declared.Job.{Job}
use Rattle.model.specs.declared.Check.{Check}
use Rattle.model.specs.declared.Check.TheVariants.{Meets, UnsoundPlan, NoRank, NotOneUnit, RowCount, WrongWeight, WrongBound}
use Rattle.events.specs.JobList.{list_of, empty_list}
use Rattle.events.specs.Events.{answer_numbers}
use Rattle.events.specs.declared.JobList.{JobList}
use Rattle.emptying.specs.Run.{State, run, list_after_all, answers}
use Rattle.emptying.specs.Emptying.{start, EmptyingRule}
use Rattle.emptying.proofs.Emptying.{emptying_passed}
use Rattle.plan_text.specs.TextQuestions.{max_text, text_number, is_accepted}
use Rattle.plan_text.specs.Reading.{reading}
use Rattle.plan_text.specs.declared.TextAnswer.{TextAnswer}
use Rattle.plan_text.specs.declared.TextAnswer.TheVariants.{Accepted, TooLong, BadLine, BadLetter, BadFields, OutOfRange, Repeated, Incomplete}
use Rattle.plan_text.specs.declared.Reading.{Reading}
use Rattle.plan_text.proofs.AcceptedText.{accepted_whole}
use Rattle.moves_text.specs.Quoted.{quoted}
use Rattle.moves_text.specs.Decimals.{decimal}
use Rattle.moves_text.specs.Division.{plan_part, event_part}
use Rattle.moves_text.specs.EventLines.{counted_in, events_in}
use Rattle.moves_text.specs.OutputLines.{about_check, about_plan, plan_line, check_line}
use Rattle.moves_text.specs.Output.{Reply, replies_to, printed_from, output}
use Rattle.moves_text.specs.PrintedRule.{met_lines, said, admitted_replies, last_active, PrintedTheorem}
use Rattle.moves_text.proofs.Replies.{replies_in, events_parts, list_parts, replies_parts, replies_length, answers_printed, zeros_admitted, active_last}

-- a `P` line and a `Q` line whose first digit is 0
met_answer : (a : TextAnswer) (line : ℕ) (more rest : List ℕ) → get_or (plan_line (text_number a) line ++ more ++ rest) 2 0 ≡ 48 → text_number a ≡ 0
unfolding decimal
met_answer Accepted line more rest e = refl
met_answer TooLong line more rest e = absurd (omega arith)
met_answer BadLine line more rest e = absurd (omega arith)
met_answer BadLetter line more rest e = absurd (omega arith)
met_answer BadFields line more rest e = absurd (omega arith)
met_answer OutOfRange line more rest e = absurd (omega arith)
met_answer Repeated line more rest e = absurd (omega arith)
met_answer Incomplete line more rest e = absurd (omega arith)

met_check : (c : Check) (rest : List ℕ) → let n = check_numbers c in get_or (check_line n.0 n.1 n.2 ++ rest) 2 0 ≡ 48 → c ≡ Meets
unfolding decimal
met_check Meets rest e = refl
met_check UnsoundPlan rest e = absurd (omega arith)
met_check NoRank rest e = absurd (omega arith)
met_check (NotOneUnit t k) rest e = absurd (omega arith)
met_check RowCount rest e = absurd (omega arith)
met_check (WrongWeight r) rest e = absurd (omega arith)
met_check (WrongBound r) rest e = absurd (omega arith)

-- an output that begins with the two lines: the input is not too long, its plan was accepted and meets the rule
module _ (input rest : List ℕ) (begins : output input ≡ met_lines ++ rest) where
  abbrev r : Reading
  r = reading (plan_part input)

  abbrev printed : List ℕ
  printed = printed_from 1 (replies_in input)

  computed : output input ≡ about_plan r ++ printed
  unfolding output
  computed = go (leb (length input) max_text) begins
    where
      out : Bool → List ℕ
      out short = cond short (about_plan r ++ printed) (quoted "P\t1\t0\n")

      go : (short : Bool) → out short ≡ met_lines ++ rest → out short ≡ about_plan r ++ printed
      go true e = refl
      go false e = absurd (omega (arith, ap (λ bytes. get_or bytes 2 0) e))

  byte : (i : ℕ) → get_or (about_plan r ++ printed) i 0 ≡ get_or (met_lines ++ rest) i 0
  byte i = ap (λ bytes. get_or bytes i 0) (sym computed ∙ begins)

  zero_answer : text_number r.answer ≡ 0
  zero_answer = met_answer r.answer r.line (cond (is_accepted r.answer) (about_check r.plan) []) printed (byte 2)

  about : about_plan r ≡ quoted "P\t0\t0\n" ++ about_check r.plan
  unfolding decimal
  about = rw (zero_answer, ap (λ (a : Reading). a.line) (accepted_whole (plan_part input) zero_answer).handed) refl

  met_passed : check r.plan ≡ Meets
  met_passed = met_check (check r.plan) printed (ap (λ bytes. get_or (bytes ++ printed) 8 0) (sym about) ∙ byte 8)

  about_met : about_plan r ≡ met_lines
  unfolding decimal
  about_met = about ∙ rw met_passed refl

  met_output : output input ≡ met_lines ++ printed
  met_output = computed ∙ ap (λ bytes. bytes ++ printed) about_met

-- the table of a list of jobs counts them
count_of : (js : List Job) → (list_of js).count ≡ length js
unfolding list_of
count_of js = refl

pub printed_theorem : PrintedTheorem
printed_theorem input rest begins first last parts moves =
    record {
      early = early;
      late = late;
      printed = met_output input rest begins ∙ ap (λ rs. met_lines ++ printed_from 1 rs) replies;
      early_each = replies_length p empty_list first;
      late_each = replies_length p between last;
      answered =
          ap said (sym replies)
          ∙ answers_printed p empty_list (counted_in (event_part input))
          ∙ ap (λ ls. map answer_numbers (answers p empty_list (events_in ls))) parts;
      rule = rule;
      active = ap last_active (sym replies) ∙ active;
    }
  where
    p : Plan
    p = (reading (plan_part input)).plan

    between : JobList
    between = list_after_all p empty_list (events_in first)

    early : List Reply
    early = replies_to p empty_list first

    late : List Reply
    late = replies_to p between last

    replies : replies_in input ≡ early ++ late
    replies = ap (replies_to p empty_list) parts ∙ replies_parts p empty_list first last

    end : State
    end = run p (run p start (events_in first)) (events_in last)

    rule : EmptyingRule p (run p start (events_in first)) end (admitted_replies late)
    rule = rw (zeros_admitted p between last) (emptying_passed p (met_passed input rest begins) (events_in first) (events_in last) moves)

    active : last_active (replies_in input) ≡ length end.ledger.jobs
    active =
        active_last p empty_list (counted_in (event_part input)) (count_of [])
        ∙ ap (λ (t : JobList). t.count)
        (ap (λ ls. list_after_all p empty_list (events_in ls)) parts
        ∙ ap (list_after_all p empty_list) (events_parts first last)
        ∙ list_parts p empty_list (events_in first) (events_in last)
        ∙ rule.same)
        ∙ count_of end.ledger.jobs
