-- For every way in which the input is cut into reads: what is put of a read, and what is still to be printed from the desk after it, is together what
-- was to be printed before. Of a read by its parts between LFs: the first of them ends the line that is held, and the last is held.
use Prim.Native.Nat.{ℕ, ◌+◌, ◌≤◌, ◌<◌}
use native.Mathlib.Omega.{arith}
use mathlib.Core.List.{List, [], ◌∷◌, ◌++◌, map, append_assoc, append-nil}
use mathlib.Core.Logic.{inl}
use mathlib.Core.Path.{◌≡◌, refl, sym, ap, subst, ◌∙◌}
use lib.ListN.{length, length-append}
use borrow.Author.Tests.{ne_eqb, lt-ltb, le-leb}
use Rattle.model.specs.Numbers.{Each}
use Rattle.model.specs.declared.Plan.{Plan}
use Rattle.model.proofs.Lists.{append_each}
use Rattle.events.specs.JobList.{empty_list}
use Rattle.plan_text.specs.Lines.{line_end, split_by, lines_in, lines_of}
use Rattle.plan_text.specs.TextQuestions.{max_text}
use Rattle.plan_text.specs.Reading.{reading}
use Rattle.plan_text.proofs.Split.{joined_by, split_joined, split_clean}
use Rattle.moves_text.specs.Quoted.{quoted}
use Rattle.moves_text.specs.Division.{plan_part, event_part}
use Rattle.moves_text.specs.EventLines.{event_in, counted, counted_in}
use Rattle.moves_text.specs.OutputLines.{about_plan}
use Rattle.moves_text.specs.Output.{replies_to, printed_from, to_print, output}
use Rattle.moves_text.specs.Prints.{concatenated}
use Rattle.moves_text.specs.declared.EventLine.{EventLine}
use Rattle.moves_text.specs.declared.EventLine.TheVariants.{Skipped, Malformed, Given}
use Rattle.moves_text.proofs.Divided.{Clean, ended, lines_then, lines_alone, input_divided, divides_one}
use Rattle.moves_text.proofs.Printed.{lines_answered}
use Rattle.desk_text.specs.HeldLine.{held_with, held_means}
use Rattle.desk_text.specs.Desk.{start_desk, last_ordinal, desk_after_meaning, meaning_out, desk_after_lines, out_of_lines}
use Rattle.desk_text.specs.Desk.{desk_after_read, out_of_read, out_at_end}
use Rattle.desk_text.specs.DeskOutput.{out_of_reads, desk_output, Countable, DeskAsCellmoves, DeskPrints}
use Rattle.desk_text.specs.declared.Desk.{Desk}
use Rattle.desk_text.proofs.HeldLines.{IsHeld, holds_none, holds_more, held_means_lem}

module _ (p : Plan) where
  -- what is to be printed from a desk, of a text behind the line that it holds
  abbrev to_come : Desk → List ℕ → List ℕ
  to_come d text = to_print p d.list d.ordinal text

  -- from a desk that holds a line to another that holds a line: what was put, and what is to come, of any text behind the bytes read
  pub record Carries (d : Desk) (line bytes : List ℕ) (after : Desk) (out : List ℕ) : Type 0 where
    pub left : List ℕ
    pub clean : Clean left
    pub holds : IsHeld after.held left
    pub whole : (rest : List ℕ) → to_come d (line ++ (bytes ++ rest)) ≡ out ++ to_come after (left ++ rest)
    pub ordinals : after.ordinal ≤ d.ordinal + length bytes

  -- a whole line is answered, by what it means
  line_put : (d : Desk) (line rest : List ℕ) → Clean line → d.ordinal < last_ordinal → (m : EventLine) → event_in (ended line) ≡ m
      → to_come d (line ++ line_end ∷ rest) ≡ meaning_out p d m ++ to_come (desk_after_meaning p d m) rest
  line_put d line rest clean few m e = ap (λ ls. printed_from d.ordinal (replies_to p d.list ls)) first ∙ by_meaning m
    where
      first : counted_in (line ++ line_end ∷ rest) ≡ counted (m ∷ map event_in (lines_of rest))
      first =
          ap (λ ls. counted (map event_in ls)) (lines_then line rest clean) ∙ ap (λ x. counted (x ∷ map event_in (lines_of rest))) e

      by_meaning : (m : EventLine)
          → printed_from d.ordinal (replies_to p d.list (counted (m ∷ map event_in (lines_of rest)))) ≡ meaning_out p d m ++ to_come (desk_after_meaning p d m) rest
      by_meaning Skipped = refl
      by_meaning Malformed = rw (lt-ltb d.ordinal last_ordinal few) refl
      by_meaning (Given e) = rw (lt-ltb d.ordinal last_ordinal few) refl

  -- the desk after it holds no line, and its ordinal is one more at most
  none_held : (d : Desk) (m : EventLine) → IsHeld (desk_after_meaning p d m).held []
  none_held d Skipped = holds_none
  none_held d Malformed = holds_none
  none_held d (Given e) = holds_none

  ordinal_next : (d : Desk) → d.ordinal < last_ordinal → (m : EventLine) → (desk_after_meaning p d m).ordinal ≤ d.ordinal + 1
  ordinal_next d few Skipped = omega arith
  ordinal_next d few Malformed = rw (lt-ltb d.ordinal last_ordinal few) (omega arith)
  ordinal_next d few (Given e) = rw (lt-ltb d.ordinal last_ordinal few) (omega arith)

  parts_put : (ps : List (List ℕ)) → Each Clean ps → (d : Desk) (line : List ℕ) → Clean line → IsHeld d.held line
      → d.ordinal + length (joined_by line_end ps) ≤ last_ordinal
      → Carries d line (joined_by line_end ps) (desk_after_lines p d (lines_in ps)) (out_of_lines p d (lines_in ps))
  parts_put [] clean d line also k few =
      record { left = line; clean = also; holds = k; whole = λ rest. refl; ordinals = omega arith }
  parts_put ([] ∷ []) clean d line also k few =
      record { left = line; clean = also; holds = k; whole = λ rest. refl; ordinals = omega arith }
  parts_put ((b ∷ bs) ∷ []) clean d line also k few =
      record {
        left = line ++ b ∷ bs;
        clean = append_each _ line (b ∷ bs) also clean.0;
        holds = holds_more d.held line k (b ∷ bs);
        whole = λ rest. ap (to_come d) (sym (append_assoc line (b ∷ bs) rest));
        ordinals = omega arith;
      }
  parts_put (q ∷ r ∷ ps) clean d line also k few =
      let later = joined_by line_end (r ∷ ps) in
      let size = length-append q (line_end ∷ later) in
      let whole-line = append_each _ line q also clean.0 in
      let m = event_in (ended (line ++ q)) in
      let told : held_means (held_with d.held q) ≡ m = held_means_lem (held_with d.held q) (line ++ q) (holds_more d.held line k q) in
      let next = desk_after_meaning p d m in
      let below : d.ordinal < last_ordinal = omega arith in
      let on = parts_put (r ∷ ps) clean.1 next [] tt (none_held d m) (omega (arith, ordinal_next d below m)) in
      subst
      (λ (m : EventLine). let next = desk_after_meaning p d m in
      Carries d line (q ++ line_end ∷ later) (desk_after_lines p next (lines_in (r ∷ ps))) (meaning_out p d m ++ out_of_lines p next (lines_in (r ∷ ps))))
      (sym told)
      (record {
        left = on.left;
        clean = on.clean;
        holds = on.holds;
        whole =
            λ rest.
            ap (to_come d) (ap (λ bs. line ++ bs) (append_assoc q (line_end ∷ later) rest) ∙ sym (append_assoc line q (line_end ∷ (later ++ rest))))
            ∙ line_put d (line ++ q) (later ++ rest) whole-line below m refl
            ∙ ap (λ out. meaning_out p d m ++ out) (on.whole rest)
            ∙ sym (append_assoc (meaning_out p d m) (out_of_lines p next (lines_in (r ∷ ps))) _);
        ordinals = omega (arith, on.ordinals, ordinal_next d below m);
      })

  read_put : (read : List ℕ) (d : Desk) (line : List ℕ) → Clean line → IsHeld d.held line → d.ordinal + length read ≤ last_ordinal
      → Carries d line read (desk_after_read p d read) (out_of_read p d read)
  unfolding desk_after_read out_of_read
  read_put read d line clean k few =
      rw (split_joined line_end read) at
      (parts_put (split_by line_end read) (split_clean line_end read) d line clean k (rw (split_joined line_end read) few))

  -- at the end of the input
  end_put : (d : Desk) (line : List ℕ) → Clean line → IsHeld d.held line → out_at_end d ≡ to_come d line
  unfolding out_at_end event_in
  end_put d [] clean k = rw k.size refl
  end_put d (b ∷ bs) clean k =
      rw (ne_eqb d.held.count 0 (omega (arith, k.size)), lines_alone (b ∷ bs) clean) (sym (append-nil _))

  reads_put : (reads : List (List ℕ)) (d : Desk) (line : List ℕ) → Clean line → IsHeld d.held line
      → d.ordinal + length (concatenated reads) ≤ last_ordinal → out_of_reads p d reads ≡ to_come d (line ++ concatenated reads)
  reads_put [] d line clean k few = end_put d line clean k ∙ ap (to_come d) (sym (append-nil line))
  reads_put (read ∷ reads) d line clean k few =
      let size = length-append read (concatenated reads) in
      let s = read_put read d line clean k (omega arith) in
      let after = desk_after_read p d read in
      ap (λ out. out_of_read p d read ++ out) (reads_put reads after s.left s.clean s.holds (omega (arith, s.ordinals)))
      ∙ sym (s.whole (concatenated reads))

-- so in all what is put is what is to be printed of the whole input
desk_output_lem : (plan : List ℕ) (reads : List (List ℕ)) → Countable reads
    → desk_output plan reads ≡ about_plan (reading plan) ++ to_print (reading plan).plan empty_list 1 (concatenated reads)
desk_output_lem plan reads few =
    ap (λ out. about_plan (reading plan) ++ out) (reads_put (reading plan).plan reads start_desk [] tt holds_none (omega arith))

pub desk_prints : DeskPrints
desk_prints plan reads few = rw (desk_output_lem plan reads few) (lines_answered plan (concatenated reads))

pub desk_as_cellmoves : DeskAsCellmoves
unfolding output
desk_as_cellmoves input plan reads marked room =
    let events = concatenated reads in
    let parts = divides_one input plan events (plan_part input) (event_part input) (inl marked) (input_divided input) in
    let size = ap length (marked.whole ∙ append_assoc plan (quoted "E\n") events) ∙ length-append plan (quoted "E\n" ++ events) in
    let few : Countable reads = omega (arith, size) in
    desk_output_lem plan reads few ∙ rw (le-leb (length input) max_text room, parts.0, parts.1) refl
