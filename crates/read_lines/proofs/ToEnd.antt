-- A reader that is read to the end has read exactly the lines of its text, those that the plan text is made of: each reading takes
-- the first of the lines that are left, and leaves less of the text.
use Prim.Native.Nat.{ℕ, zero, suc, ◌+◌, ◌-◌, ◌≤◌, ◌<◌}
use native.Mathlib.Omega.{arith}
use mathlib.Core.Bool.{Bool, true, false, cond}
use mathlib.Core.List.{List, ◌∷◌}
use mathlib.Core.Logic.{⊎_elim}
use mathlib.Core.Path.{◌≡◌, refl, sym, ap, ◌∙◌}
use denote.Ref.{Bor}
use lib.Dec.{ltb}
use lib.ListN.{length, take, drop}
use borrow.Author.Tests.{ltb-true}
use Rattle.std.specs.Prelude.{None}
use Rattle.model.proofs.Decide.{decided, decides_lt}
use Rattle.plan_text.specs.Lines.{Line, lines_of}
use Rattle.plan_text.specs.LineReading.{span_from}
use Rattle.plan_text.specs.declared.LineSpan.{LineSpan}
use Rattle.plan_text.proofs.LineByLine.{end_within, no_line}
use Rattle.plan_text.proofs.LineReading.{span_over, span_there, line_read, next_further, over_told, left_told}
use Rattle.read_lines.specs.LineReads.{at_start, read_next, read_on, Reads, ReadToEnd}
use Rattle.read_lines.specs.LineReads.ReadToEnd.{over, line}
use Rattle.read_lines.specs.declared.LineReader.{LineReader}

-- the lines that are left to a reader
abbrev left : LineReader → List Line
left r = lines_of (drop r.at r.text.now)

-- the next line begins within the text
pub next_within : (text : List ℕ) (at : ℕ) → at < length text → (span_from text at).next ≤ length text
next_within text at there = rw (span_there text at _ refl there) (step _ (end_within text at _ refl there).1)
  where
    step : (end : ℕ) → end ≤ length text → cond (ltb end (length text)) (end + 1) end ≤ length text
    step end within = go (ltb end (length text)) refl
      where
        go : (b : Bool) → ltb end (length text) ≡ b → cond b (end + 1) end ≤ length text
        go true e = omega (arith, ltb-true end (length text) e)
        go false e = within

-- where a line was read, less of the text is left
pub less_left : (r : LineReader) → (read_next r).over ≡ false → length r.text.now - (read_on r).at < length r.text.now - r.at
less_left r e =
    let text = r.text.now in
    let there = left_told text r.at e in
    let further = next_further text r.at _ refl there in
    omega arith

-- at the end of the text no line is read, and the reader stays
pub reads_none : (r : LineReader) → (read_next r).over ≡ true → Reads r None r
reads_none r e =
    let text = r.text.now in
    let out = over_told text r.at e in
    let none : r.at - r.at ≡ 0 = omega arith in
    let span = span_over text r.at out in
    record {
      said =
          ap (λ (n : ℕ). record { line = record { bytes = take n (drop r.at text); ended = false }; over = true }) (sym none)
          ∙ sym (ap (λ (p : LineSpan). record { line = record { bytes = take (p.end - r.at) (drop r.at text); ended = p.ended }; over = p.over }) span);
      part = tt;
      moved = ap (λ (p : LineSpan). record { text = r.text; at = p.next }) (sym span);
    }

-- whoever has read to the end has read the lines that were left, and no others
pub read_left : {r : LineReader} {ls : List Line} → ReadToEnd r ls → ls ≡ left r
read_left (over {r} e) = sym (no_line r.text.now r.at (over_told r.text.now r.at e))
read_left (line {r} e more) =
    let text = r.text.now in
    ap (λ (ls : List Line). (read_next r).line ∷ ls) (read_left more) ∙ sym (line_read text r.at _ refl (left_told text r.at e))

-- reading comes to the end: n is at least how many bytes are left
at_end : (r : LineReader) → length r.text.now ≤ r.at → ReadToEnd r (left r)
at_end r h = rw (no_line r.text.now r.at h) (over (ap (λ (p : LineSpan). p.over) (span_over r.text.now r.at h)))

reads_on : (n : ℕ) (r : LineReader) → length r.text.now - r.at ≤ n → ReadToEnd r (left r)
reads_on zero r h = at_end r (omega arith)
reads_on (suc n) r h =
    let text = r.text.now in
    ⊎_elim
    (λ (there : r.at < length text).
    let some : (read_next r).over ≡ false = ap (λ (p : LineSpan). p.over) (span_there text r.at _ refl there) in
    let less = less_left r some in
    rw (line_read text r.at _ refl there) (line some (reads_on n (read_on r) (omega arith))))
    (λ (none : ¬ (r.at < length text)). at_end r (omega arith))
    (decided (decides_lt r.at (length text)))

-- so from its start a text is read to its end as exactly its lines
pub read_to_end : (text : Bor (List ℕ)) → ReadToEnd (at_start text) (lines_of text.now)
read_to_end text = reads_on (length text.now) (at_start text) (omega arith)

pub read_only_these : (text : Bor (List ℕ)) (ls : List Line) → ReadToEnd (at_start text) ls → ls ≡ lines_of text.now
read_only_these text ls r = read_left r
