-- The n-th line, read from line to line, is the n-th of the text's lines: after each reading the lines that are left are one fewer. And it is what a reading
-- shows whose line is n: the refusal of a line's question shows that line, and the two that are of no line, 1 and 7, show nothing, as an acceptance does.
use Prim.Native.Nat.{ℕ, zero, suc, ◌+◌, ◌<◌}
use native.Mathlib.Numerals.{add-one}
use native.Mathlib.Omega.{arith}
use mathlib.Core.List.{List, [], ◌∷◌, ◌++◌, append_assoc, append-nil}
use mathlib.Core.Logic.{inl, inr, ⊎_elim}
use mathlib.Core.Path.{◌≡◌, refl, sym, ap, ◌∙◌}
use denote.Ref.{Bor}
use lib.ListN.{length, drop, drop_of_length-le}
use lib.Seq.{drop-drop, drop-append_seam, take-nil}
use Rattle.model.specs.Questions.{Condition, EachCondition, FirstFailure}
use Rattle.model.proofs.Decide.{decided, decides_lt, conditions_append}
use Rattle.plan_text.specs.Lines.{Line, lines_of}
use Rattle.plan_text.specs.LineReading.{span_from, line_from}
use Rattle.plan_text.specs.NthLine.{offset_after, nth_line, IsNth}
use Rattle.plan_text.specs.TextQuestions.{shown_in, RefusesText, records_of, start_after, line_conditions, lines_conditions, last_conditions, text_conditions, Accepts}
use Rattle.plan_text.specs.Reading.{reading}
use Rattle.plan_text.specs.declared.LineSpan.{LineSpan}
use Rattle.plan_text.specs.declared.Record.{Record}
use Rattle.plan_text.specs.declared.Reading.{Reading}
use Rattle.plan_text.proofs.LineByLine.{no_line}
use Rattle.plan_text.proofs.LineReading.{span_over, line_read}
use Rattle.plan_text.proofs.FirstFailure.{reading_first_failure}

-- the bytes of the first of some lines
abbrev pub first_bytes : List Line → List ℕ
first_bytes [] = []
first_bytes (l ∷ ls) = l.bytes

module _ (text : List ℕ) where
  -- what is left from the next offset on is one line fewer
  next_left : (at : ℕ) → lines_of (drop (span_from text at).next text) ≡ drop 1 (lines_of (drop at text))
  next_left at =
      ⊎_elim (λ (there : at < length text). sym (ap (drop 1) (line_read text at _ refl there)))
      (λ (over : ¬ (at < length text)).
      ap (λ (p : LineSpan). lines_of (drop p.next text)) (span_over text at (omega arith)) ∙ no_line text at (omega arith)
      ∙ sym (ap (drop 1) (no_line text at (omega arith))))
      (decided (decides_lt at (length text)))

  lines_left : (k : ℕ) → lines_of (drop (offset_after text k) text) ≡ drop k (lines_of text)
  lines_left zero = refl
  lines_left (suc k) =
      next_left (offset_after text k) ∙ ap (drop 1) (lines_left k) ∙ drop-drop 1 k (lines_of text) ∙ ap (λ (n : ℕ). drop n (lines_of text)) (add-one k)

  first_left : (at : ℕ) → (line_from text at).bytes ≡ first_bytes (lines_of (drop at text))
  first_left at =
      ⊎_elim (λ (there : at < length text). sym (ap first_bytes (line_read text at _ refl there)))
      (λ (over : ¬ (at < length text)). rw (drop_of_length-le text {i = at} (omega arith), take-nil) refl)
      (decided (decides_lt at (length text)))

  -- the n-th line is the n-th of the lines
  pub nth_of_lines : (k : ℕ) → nth_line text (suc k) ≡ first_bytes (drop k (lines_of text))
  nth_of_lines k = first_left (offset_after text k) ∙ ap first_bytes (lines_left k)

  -- the line that stands behind others
  nth_behind : (before ls : List Line) → before ++ ls ≡ lines_of text → nth_line text (length before + 1) ≡ first_bytes ls
  nth_behind before ls all =
      ap (nth_line text) (add-one (length before)) ∙ nth_of_lines (length before) ∙ ap (λ (xs : List Line). first_bytes (drop (length before) xs)) (sym all)
      ∙ ap first_bytes (drop-append_seam before ls)

  -- a reading shows the line that it names
  abbrev Names : Reading → Type 0
  Names a = nth_line text a.line ≡ shown_in text a

  abbrev Naming : Condition Reading → Type 0
  Naming c = (a : Reading) → c.refusal a → Names a

  naming : (number n start : ℕ) (part : List ℕ) → nth_line text n ≡ part → (a : Reading) → RefusesText text number n start part a → Names a
  naming number n start part e a r = ap (nth_line text) r.says.line ∙ e ∙ sym r.says.shown

  naming_line : (rs : List Record) (n from : ℕ) (l : Line) → nth_line text n ≡ l.bytes → EachCondition Naming (line_conditions text rs n from l)
  naming_line rs n from l e =
      let named : (number : ℕ) (a : Reading) → RefusesText text number n from l.bytes a → Names a = λ number. naming number n from l.bytes e in
      (named 2, (named 3, (named 4, (named 5, (named 6, (named 5, tt))))))

  naming_lines : (ls before : List Line) → before ++ ls ≡ lines_of text → EachCondition Naming (lines_conditions text before ls)
  naming_lines [] before all = tt
  naming_lines (l ∷ ls) before all =
      conditions_append Naming (line_conditions text (records_of before) (length before + 1) (start_after before) l) (lines_conditions text (before ++ l ∷ []) ls)
      (naming_line (records_of before) (length before + 1) (start_after before) l (nth_behind before (l ∷ ls) all))
      (naming_lines ls (before ++ l ∷ []) (append_assoc before (l ∷ []) ls ∙ all))

  -- whichever question fails first
  any_names : (cs : List (Condition Reading)) (a : Reading) → EachCondition Naming cs → FirstFailure (Accepts text) cs a → Names a
  any_names [] a each h = ap (nth_line text) h.says.line ∙ sym h.says.shown
  any_names (c ∷ cs) a each (inl h) = each.0 a h.1
  any_names (c ∷ cs) a each (inr h) = any_names cs a each.1 h.1

  -- what a reading shows is the line whose number it says
  pub nth_shown : nth_line text (reading text).line ≡ shown_in text (reading text)
  nth_shown =
      any_names (text_conditions text) (reading text) (
        naming 1 0 0 [] refl,
        conditions_append Naming (lines_conditions text [] (lines_of text)) (last_conditions text (lines_of text)) (naming_lines (lines_of text) [] refl)
            (naming 7 (length (lines_of text) + 1) 0 [] (nth_behind (lines_of text) [] (append-nil (lines_of text))), tt),
      )
      (reading_first_failure text)

-- the part found has these bytes
pub nth_bytes : (text part : Bor (List ℕ)) (n : ℕ) → IsNth text n part → part.now ≡ nth_line text.now n
nth_bytes text part zero is = is.bytes
nth_bytes text part (suc k) is = is.bytes

-- so for whoever has read the text, the line with the number that the reading says is the part that it shows
pub shown_is_nth : (text part : Bor (List ℕ)) (r : Reading) → r ≡ reading text.now → IsNth text r.line part → part.now ≡ shown_in text.now r
shown_is_nth text part r e is =
    nth_bytes text part r.line is ∙ ap (λ (a : Reading). nth_line text.now a.line) e ∙ nth_shown text.now ∙ sym (ap (shown_in text.now) e)
