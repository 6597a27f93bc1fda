-- A turn reads the next line and, where it is counted, answers it: what is to be printed of the events is what is put so far and, behind it, what
-- the lines that are left print.
use Prim.Native.Nat.{ℕ, ◌+◌, ◌≤◌, ◌<◌}
use native.Mathlib.Omega.{arith}
use mathlib.Core.List.{List, [], ◌∷◌, ◌++◌, map}
use mathlib.Core.Option.{Option}
use mathlib.Core.Path.{◌≡◌, refl, sym, ap, ◌∙◌}
use lib.ListN.{length, drop}
use Rattle.std.specs.Prelude.{Some, None}
use Rattle.model.specs.declared.Plan.{Plan}
use Rattle.events.specs.JobList.{empty_list}
use Rattle.events.specs.declared.JobList.{JobList}
use Rattle.events.specs.declared.Event.{Event}
use Rattle.plan_text.specs.Lines.{lines_of}
use Rattle.plan_text.specs.LineReading.{span_from, line_from}
use Rattle.plan_text.proofs.LineByLine.{no_line}
use Rattle.plan_text.proofs.LineReading.{line_read, next_further, over_told, left_told}
use Rattle.read_lines.specs.LineReads.{Read, Reads}
use Rattle.read_lines.specs.declared.LineReader.{LineReader}
use Rattle.read_lines.specs.declared.TextLine.{TextLine}
use Rattle.read_lines.proofs.ToEnd.{next_within}
use Rattle.moves_text.specs.EventLines.{event_in, counted, counted_in}
use Rattle.moves_text.specs.OutputLines.{event_line, list_after_line}
use Rattle.moves_text.specs.Output.{reply_to, replies_to, printed_from, to_print}
use Rattle.moves_text.specs.declared.EventLine.{EventLine}
use Rattle.moves_text.specs.declared.EventLine.TheVariants.{Skipped}
use Rattle.write_lines.specs.Sink.{with_text}
use Rattle.write_lines.specs.declared.Sink.{Sink}
use Rattle.write_lines.proofs.Sinks.{text_then, nothing_put}

module _ (plan : Plan) (events : List ℕ) (lent : Sink) where
  -- at the head of each turn; each ordinal took a byte at least, so they can be counted
  pub record Answered (table : JobList) (ordinal : ℕ) (r : LineReader) (out : Sink) : Type 0 where
    pub reads : r.text.now ≡ events
    pub put : with_text (to_print plan empty_list 1 events) lent ≡ with_text (to_print plan table ordinal (drop r.at events)) out
    pub ordinals : ordinal ≤ r.at + 1
    pub within : r.at ≤ length events

  pub none_answered : (r : LineReader) → r.text.now ≡ events → r.at ≡ 0 → Answered empty_list 1 r lent
  none_answered r reads first =
      record {
        reads = reads;
        put = ap (λ n. with_text (to_print plan empty_list 1 (drop n events)) lent) (sym first);
        ordinals = omega (arith, first);
        within = omega (arith, first);
      }

  module _ (table : JobList) (ordinal : ℕ) (r : LineReader) (out : Sink) (a : Answered table ordinal r out) where
    module _ (l : TextLine) (after : LineReader) (step : Reads r (Some l) after) (heard : EventLine)
        (told : heard ≡ event_in (record { bytes = l.bytes.now; ended = l.ended })) where
      there : r.at < length events
      there = left_told events r.at (sym (ap (λ (x : Read). x.over) step.said ∙ ap (λ t. (span_from t r.at).over) a.reads))

      at_next : after.at ≡ (span_from events r.at).next
      at_next = ap (λ (x : LineReader). x.at) step.moved ∙ ap (λ t. (span_from t r.at).next) a.reads

      still : after.text.now ≡ events
      still = ap (λ (x : LineReader). x.text.now) step.moved ∙ a.reads

      bounds : (r.at < after.at) × (after.at ≤ length events)
      bounds = (omega (arith, at_next, next_further events r.at _ refl there), omega (arith, at_next, next_within events r.at there))

      line_is : record { bytes = l.bytes.now; ended = l.ended } ≡ line_from events r.at
      line_is = ap (λ (x : Read). x.line) step.said ∙ ap (λ t. line_from t r.at) a.reads

      lines_left : lines_of (drop r.at events) ≡ line_from events r.at ∷ lines_of (drop after.at events)
      lines_left = line_read events r.at _ refl there ∙ ap (λ n. line_from events r.at ∷ lines_of (drop n events)) (sym at_next)

      counted_left : (h : EventLine) → heard ≡ h → counted_in (drop r.at events) ≡ counted (h ∷ map event_in (lines_of (drop after.at events)))
      counted_left h is =
          ap (λ ls. counted (map event_in ls)) lines_left
          ∙ ap (λ x. counted (x ∷ map event_in (lines_of (drop after.at events)))) (sym (told ∙ ap event_in line_is) ∙ is)

      pub passed : heard ≡ Skipped → Answered table ordinal after out
      passed is =
          record {
            reads = still;
            put = a.put ∙ ap (λ ls. with_text (printed_from ordinal (replies_to plan table ls)) out) (counted_left Skipped is);
            ordinals = omega (arith, a.ordinals, bounds);
            within = bounds.1;
          }

      pub answered : (h : EventLine) (e : Option Event) → heard ≡ h → ((ls : List EventLine) → counted (h ∷ ls) ≡ e ∷ counted ls)
          → (u : JobList) → u ≡ list_after_line plan table e
          → (line : List ℕ) → (let r = reply_to plan table e in line ≡ event_line ordinal r.number r.place r.active)
          → (next : Sink) → next ≡ with_text line out → Answered u (ordinal + 1) after next
      answered h e is counts u follows line same next put =
          let left : counted_in (drop r.at events) ≡ e ∷ counted_in (drop after.at events) =
          counted_left h is ∙ counts (map event_in (lines_of (drop after.at events))) in
          record {
            reads = still;
            put =
                a.put
                ∙ ap (λ ls. with_text (printed_from ordinal (replies_to plan table ls)) out) left
                ∙ (λ i. with_text (sym same i ++ to_print plan (sym follows i) (ordinal + 1) (drop after.at events)) out)
                ∙ sym (text_then line (to_print plan u (ordinal + 1) (drop after.at events)) out)
                ∙ ap (with_text (to_print plan u (ordinal + 1) (drop after.at events))) (sym put);
            ordinals = omega (arith, a.ordinals, bounds);
            within = bounds.1;
          }

    module _ (after : LineReader) (step : Reads r None after) where
      ends : length events ≤ r.at
      ends = over_told events r.at (sym (ap (λ (x : Read). x.over) step.said ∙ ap (λ t. (span_from t r.at).over) a.reads))

      nothing_left : to_print plan table ordinal (drop r.at events) ≡ []
      nothing_left = ap (λ ls. printed_from ordinal (replies_to plan table (counted (map event_in ls)))) (no_line events r.at ends)

      pub all_put : out ≡ with_text (to_print plan empty_list 1 events) lent
      all_put = sym (nothing_put out) ∙ ap (λ bs. with_text bs out) (sym nothing_left) ∙ sym a.put
