-- Event lines answered one after the other: what is printed of them so far, and what is still to be printed from the table at hand, is together
-- what was to be printed at the start.
use Prim.Native.Nat.{ℕ, ◌+◌, ◌-◌, ◌≤◌, ◌<◌}
use native.Mathlib.Omega.{arith}
use mathlib.Core.List.{List, [], ◌∷◌, ◌++◌, map, append-nil, append_assoc}
use mathlib.Core.Option.{Option}
use mathlib.Core.Path.{◌≡◌, refl, sym, ap, ◌∙◌}
use lib.Dec.{ltb}
use lib.ListN.{length, take, drop}
use Rattle.byte_slices.specs.Bytes.{slice, index_of}
use Rattle.model.specs.declared.Plan.{Plan}
use Rattle.events.specs.JobList.{empty_list}
use Rattle.events.specs.declared.JobList.{JobList}
use Rattle.events.specs.declared.Event.{Event}
use Rattle.plan_text.specs.Lines.{Line, line_end, lines_of}
use Rattle.plan_text.proofs.LineByLine.{end_within, line_here, no_line}
use Rattle.moves_text.specs.EventLines.{event_in, counted, counted_in}
use Rattle.moves_text.specs.OutputLines.{event_line, list_after_line}
use Rattle.moves_text.specs.Output.{reply_to, replies_to, printed_from, to_print}
use Rattle.moves_text.specs.declared.EventLine.{EventLine}
use Rattle.moves_text.specs.declared.EventLine.TheVariants.{Skipped}

-- at the head of each turn: the text is read up to `at`, its lines so far are `done`, and n is the ordinal of the next
pub record Replying (p : Plan) (events : List ℕ) (t : JobList) (n at : ℕ) (done : List ℕ) : Type 0 where
  pub whole : to_print p empty_list 1 events ≡ done ++ to_print p t n (drop at events)
  pub ordinals : n ≤ at + 1
  pub within : at ≤ length events + 1

pub replying_start : (p : Plan) (events : List ℕ) → Replying p events empty_list 1 0 []
replying_start p events = record { whole = refl; ordinals = omega arith; within = omega arith }

module _ (p : Plan) (events : List ℕ) (t : JobList) (n at : ℕ) (done : List ℕ) (g : Replying p events t n at done) (end : ℕ) (there : at < length events)
    (found : end ≡ at + index_of line_end (slice at (length events) events)) where
  abbrev pub line_at : Line
  line_at = record { bytes = take (end - at) (drop at events); ended = ltb end (length events) }

  lines_left : lines_of (drop at events) ≡ line_at ∷ lines_of (drop (end + 1) events)
  lines_left = line_here events at end found there

  pub counted_left : (l : EventLine) → event_in line_at ≡ l → counted_in (drop at events) ≡ counted (l ∷ map event_in (lines_of (drop (end + 1) events)))
  counted_left l e =
      ap (λ ls. counted (map event_in ls)) lines_left ∙ ap (λ x. counted (x ∷ map event_in (lines_of (drop (end + 1) events)))) e

  bounds : (at ≤ end) × (end ≤ length events)
  bounds = end_within events at end found there

  pub goes_past : event_in line_at ≡ Skipped → Replying p events t n (end + 1) done
  goes_past e =
      record {
        whole = g.whole ∙ ap (λ ls. done ++ printed_from n (replies_to p t ls)) (counted_left Skipped e);
        ordinals = omega (arith, g.ordinals, bounds);
        within = omega (arith, bounds);
      }

  -- a counted line is answered and its line is printed
  module _ (l : Option Event) (left : counted_in (drop at events) ≡ l ∷ counted_in (drop (end + 1) events)) where
    abbrev pub printed_here : List ℕ
    printed_here = let r = reply_to p t l in event_line n r.number r.place r.active

    pub goes_on : (u : JobList) → u ≡ list_after_line p t l → (line : List ℕ) → line ≡ printed_here → Replying p events u (n + 1) (end + 1) (done ++ line)
    goes_on u after line same =
        record {
          whole =
              g.whole
              ∙ ap (λ ls. done ++ printed_from n (replies_to p t ls)) left
              ∙ sym (append_assoc done printed_here _)
              ∙ ap (λ v. done ++ printed_here ++ to_print p v (n + 1) (drop (end + 1) events)) (sym after)
              ∙ ap (λ bs. done ++ bs ++ to_print p u (n + 1) (drop (end + 1) events)) (sym same);
          ordinals = omega (arith, g.ordinals, bounds);
          within = omega (arith, bounds);
        }

-- at the end nothing is left to print
pub all_printed : (p : Plan) (events : List ℕ) (t : JobList) (n at : ℕ) (done : List ℕ) → Replying p events t n at done → length events ≤ at
    → done ≡ to_print p empty_list 1 events
all_printed p events t n at done g over =
    let none : counted_in (drop at events) ≡ [] = ap (λ ls. counted (map event_in ls)) (no_line events at over) in
    sym (g.whole ∙ ap (λ ls. done ++ printed_from n (replies_to p t ls)) none ∙ append-nil done)
