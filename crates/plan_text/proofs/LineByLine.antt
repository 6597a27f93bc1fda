-- The lines of a text, one after the other, by where a search for the next LF ends.
use Prim.Native.Nat.{ℕ, suc, ◌+◌, ◌-◌, ◌≤◌, ◌<◌}
use native.Mathlib.Omega.{arith}
use mathlib.Core.Bool.{Bool, true, false}
use mathlib.Core.List.{List, [], ◌∷◌}
use mathlib.Core.Logic.{◌≢◌, ⊎_elim}
use mathlib.Core.Path.{◌≡◌, refl, ap, ◌∙◌}
use lib.Dec.{eqb, ltb}
use lib.ListN.{length, take, drop, length-drop, drop_of_length-le}
use lib.Seq.{take-length, length-take-le}
use borrow.Author.Tests.{lt-ltb, le-ltb}
use Rattle.byte_slices.specs.Bytes.{slice, index_after, index_of}
use Rattle.model.proofs.Decide.{decided, decides_lt}
use Rattle.plan_text.specs.Lines.{line_end, split_by, lines_in, lines_of}
use Rattle.plan_text.proofs.Split.{split_some, after_separator, after_end, split_from}

pub found_within : (s : ℕ) (xs : List ℕ) → index_of s xs ≤ length xs
unfolding index_of index_after
found_within s [] = omega arith
found_within s (x ∷ xs) = step (eqb x s) (found_within s xs)
  where
    step : (b : Bool) → index_of s xs ≤ length xs → index_after b (index_of s xs) ≤ suc (length xs)
    step true h = omega arith
    step false h = omega arith

-- a part that others follow is a line with its LF
pub line_then : (p : List ℕ) (ps : List (List ℕ)) → ps ≢ [] → lines_in (p ∷ ps) ≡ record { bytes = p; ended = true } ∷ lines_in ps
line_then p [] some = absurd (some refl)
line_then p (q ∷ qs) some = refl

line_last : (p : List ℕ) → 1 ≤ length p → lines_in (p ∷ []) ≡ record { bytes = p; ended = false } ∷ []
line_last [] h = absurd (omega arith)
line_last (b ∷ bs) h = refl

module _ (text : List ℕ) (from end : ℕ) (found : end ≡ from + index_of line_end (slice from (length text) text)) (there : from < length text) where
  abbrev bytes : List ℕ
  bytes = take (end - from) (drop from text)

  pub end_within : (from ≤ end) × (end ≤ length text)
  unfolding slice
  end_within =
      let whole : take (length text) text ≡ text = take-length text in
      let reached : end ≡ from + index_of line_end (drop from text) = rw whole at found in
      (omega (arith, reached), omega (arith, reached, found_within line_end (drop from text), length-drop from text))

  pub line_length : length bytes ≡ end - from
  line_length = length-take-le (end - from) (drop from text) (omega (arith, end_within, length-drop from text))

  -- the line that begins here, and those after it
  pub line_ended : end < length text → lines_of (drop from text) ≡ record { bytes = bytes; ended = true } ∷ lines_of (drop (end + 1) text)
  line_ended h =
      ap lines_in (split_from line_end text from end found)
      ∙ ap (λ ps. lines_in (bytes ∷ ps)) (after_separator line_end text end h)
      ∙ line_then bytes (split_by line_end (drop (end + 1) text)) (split_some line_end (drop (end + 1) text))

  pub line_unended : length text ≤ end → lines_of (drop from text) ≡ record { bytes = bytes; ended = false } ∷ []
  line_unended h =
      ap lines_in (split_from line_end text from end found)
      ∙ ap (λ ps. lines_in (bytes ∷ ps)) (after_end line_end text end h)
      ∙ line_last bytes (omega (arith, line_length))

  -- both at once: the line has its LF where the search ends before the text does
  pub line_here : lines_of (drop from text) ≡ record { bytes = bytes; ended = ltb end (length text) } ∷ lines_of (drop (end + 1) text)
  line_here =
      ⊎_elim (λ (h : end < length text). line_ended h ∙ rw (lt-ltb end (length text) h) refl)
      (λ (h : ¬ (end < length text)).
      let all : drop (end + 1) text ≡ [] = drop_of_length-le text {i = end + 1} (omega arith) in
      line_unended (omega arith) ∙ rw (le-ltb end (length text) (omega arith), all) refl)
      (decided (decides_lt end (length text)))

pub no_line : (text : List ℕ) (from : ℕ) → length text ≤ from → lines_of (drop from text) ≡ []
no_line text from h = rw (drop_of_length-le text {i = from}) refl
