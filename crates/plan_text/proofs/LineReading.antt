-- The line that begins at an offset is the first of the lines that are left, and the others begin behind it: by where a search for
-- the next LF ends.
use Prim.Native.Nat.{ℕ, ◌+◌, ◌-◌, ◌≤◌, ◌<◌}
use native.Mathlib.Nat.{add-zero}
use native.Mathlib.Omega.{arith}
use mathlib.Core.Bool.{Bool, true, false, cond}
use mathlib.Core.List.{List, [], ◌∷◌}
use mathlib.Core.Logic.{⊎_elim}
use mathlib.Core.Path.{◌≡◌, refl, sym, ap, ◌∙◌}
use lib.Dec.{ltb, leb}
use lib.ListN.{length, take, drop, drop_of_length-le}
use lib.Seq.{take-length}
use borrow.Author.Tests.{lt-ltb, le-ltb, le-leb, lt-leb, ltb-false, leb-true, leb-false}
use Rattle.byte_slices.specs.Bytes.{slice, index_of}
use Rattle.model.proofs.Decide.{decided, decides_lt}
use Rattle.plan_text.specs.Lines.{Line, line_end, lines_of}
use Rattle.plan_text.specs.LineReading.{first_span, span_from, line_from}
use Rattle.plan_text.specs.declared.LineSpan.{LineSpan}
use Rattle.plan_text.proofs.LineByLine.{end_within, line_length, line_here, no_line}

module _ (text : List ℕ) (at : ℕ) where
  -- nothing is left
  pub span_over : length text ≤ at → span_from text at ≡ record { end = at; next = at; ended = false; over = true }
  unfolding span_from
  span_over h = ap (first_span at) (no_line text at h)

  -- something is left, and a search for its LF ends at an offset
  module _ (end : ℕ) (found : end ≡ at + index_of line_end (slice at (length text) text)) (there : at < length text) where
    ends : at + length (take (end - at) (drop at text)) ≡ end
    ends = omega (arith, line_length text at end found there, end_within text at end found there)

    pub span_there : span_from text at ≡ record { end = end; next = cond (ltb end (length text)) (end + 1) end; ended = ltb end (length text); over = false }
    unfolding span_from
    span_there =
        ap (first_span at) (line_here text at end found there)
        ∙ ap (λ (n : ℕ). record { end = n; next = cond (ltb end (length text)) (n + 1) n; ended = ltb end (length text); over = false }) ends

    -- so where the line ends, the search does
    pub span_end : (span_from text at).end ≡ end
    span_end = ap (λ (p : LineSpan). p.end) span_there

    next_lines : lines_of (drop (end + 1) text) ≡ lines_of (drop (cond (ltb end (length text)) (end + 1) end) text)
    next_lines =
        ⊎_elim (λ (h : end < length text). rw (lt-ltb end (length text) h) refl)
        (λ (h : ¬ (end < length text)).
        rw (le-ltb end (length text) (omega arith), drop_of_length-le text {i = end + 1} (omega arith), drop_of_length-le text {i = end} (omega arith)) refl)
        (decided (decides_lt end (length text)))

    -- the first of the lines is the one found, and the others are those from the next offset on
    pub line_read : lines_of (drop at text) ≡ line_from text at ∷ lines_of (drop (span_from text at).next text)
    line_read =
        line_here text at end found there
        ∙ ap (λ (ls : List Line). record { bytes = take (end - at) (drop at text); ended = ltb end (length text) } ∷ ls) next_lines
        ∙ sym (ap (λ (p : LineSpan). record { bytes = take (p.end - at) (drop at text); ended = p.ended } ∷ lines_of (drop p.next text)) span_there)

    pub next_further : at < (span_from text at).next
    next_further = rw span_there (further (ltb end (length text)) refl)
      where
        further : (b : Bool) → ltb end (length text) ≡ b → at < cond b (end + 1) end
        further true e = omega (arith, end_within text at end found there)
        further false e = omega (arith, end_within text at end found there, ltb-false)

  -- where a search for the next LF ends
  abbrev searched : ℕ
  searched = at + index_of line_end (slice at (length text) text)

  -- so there the line ends, and past the end of the text too
  pub end_searched : (span_from text at).end ≡ searched
  unfolding index_of slice
  end_searched =
      ⊎_elim (λ (h : at < length text). span_end searched refl h)
      (λ (h : ¬ (at < length text)).
      let whole : take (length text) text ≡ text = take-length text in
      let none : drop at text ≡ [] = drop_of_length-le text {i = at} (omega arith) in
      ap (λ (p : LineSpan). p.end) (span_over (omega arith)) ∙ rw (whole, none) (sym (add-zero at)))
      (decided (decides_lt at (length text)))

  -- all is told by where the line ends
  pub span_by_end : let end = (span_from text at).end in
      span_from text at ≡ record { end = end; next = cond (ltb end (length text)) (end + 1) end; ended = ltb end (length text); over = leb (length text) at }
  span_by_end =
      ⊎_elim
      (λ (h : at < length text).
      rw (lt-leb (length text) at h, span_there searched refl h) refl)
      (λ (h : ¬ (at < length text)).
      rw (le-leb (length text) at (omega arith), span_over (omega arith), le-ltb at (length text) (omega arith)) refl)
      (decided (decides_lt at (length text)))

  -- the text is at its end exactly where nothing is left
  over_by_end : (span_from text at).over ≡ leb (length text) at
  over_by_end = ap (λ (p : LineSpan). p.over) span_by_end

  pub over_told : (span_from text at).over ≡ true → length text ≤ at
  over_told e = leb-true (length text) at (sym over_by_end ∙ e)

  pub left_told : (span_from text at).over ≡ false → at < length text
  left_told e = leb-false (length text) at (sym over_by_end ∙ e)

-- for whoever has where a line ends, while something is left: a search for the next LF ends there, within the text
module _ (text : List ℕ) (at end : ℕ) (e : end ≡ (span_from text at).end) (there : at < length text) where
  pub end_found : end ≡ at + index_of line_end (slice at (length text) text)
  end_found = e ∙ span_end text at (searched text at) refl there

  pub end_bounds : (at ≤ end) × (end ≤ length text)
  end_bounds = end_within text at end end_found there
