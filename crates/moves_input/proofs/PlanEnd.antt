-- Where the plan of an input ends, line by line: what is passed and what is left before the mark are its length at every line.
use Prim.Native.Nat.{ℕ, ◌+◌, ◌≤◌, ◌<◌}
use native.Mathlib.Nat.{zero-add}
use native.Mathlib.Omega.{arith}
use mathlib.Core.Bool.{Bool, true, false, cond}
use mathlib.Core.List.{List, ◌∷◌}
use mathlib.Core.Path.{◌≡◌, refl, sym, ap, ◌∙◌}
use lib.ListN.{length, drop}
use Rattle.std.specs.Prelude.{Some, None}
use Rattle.plan_text.specs.Lines.{Line, lines_of}
use Rattle.plan_text.specs.LineReading.{first_span, span_from, line_from}
use Rattle.plan_text.proofs.LineByLine.{no_line}
use Rattle.plan_text.proofs.LineReading.{line_read, over_told, left_told}
use Rattle.read_lines.specs.LineReads.{Read, Reads}
use Rattle.read_lines.specs.declared.LineReader.{LineReader}
use Rattle.read_lines.specs.declared.TextLine.{TextLine}
use Rattle.read_lines.proofs.ToEnd.{next_within}
use Rattle.moves_text.specs.Division.{is_mark, length_before, plan_length}

-- the bytes before an offset, and those of the lines from there to the mark
abbrev pub plan_from : List ℕ → ℕ → ℕ
plan_from input at = at + length_before (lines_of (drop at input))

pub plan_from_start : (input : List ℕ) → plan_length input ≡ plan_from input 0
unfolding plan_length
plan_from_start input = sym (zero-add _)

module _ (text : List ℕ) (at : ℕ) (there : at < length text) where
  -- behind the line and its LF
  next_behind : let l = line_from text at in (span_from text at).next ≡ at + (length l.bytes + cond l.ended 1 0)
  unfolding span_from
  next_behind = ap (λ (ls : List Line). (first_span at ls).next) (line_read text at _ refl there) ∙ go (line_from text at).ended
    where
      go : (b : Bool) → cond b (at + length (line_from text at).bytes + 1) (at + length (line_from text at).bytes) ≡ at + (length (line_from text at).bytes + cond b 1 0)
      go true = omega arith
      go false = omega arith

-- a line that is read
module _ (r after : LineReader) (l : TextLine) (read : Reads r (Some l) after) where
  abbrev text : List ℕ
  text = r.text.now

  abbrev said : Line
  said = record { bytes = l.bytes.now; ended = l.ended }

  line_told : said ≡ line_from text r.at
  line_told = ap (λ (x : Read). x.line) read.said

  there : r.at < length text
  there = left_told text r.at (sym (ap (λ (x : Read). x.over) read.said))

  here : lines_of (drop r.at text) ≡ said ∷ lines_of (drop after.at text)
  here =
      line_read text r.at _ refl there
      ∙ ap (λ (x : Line). x ∷ lines_of (drop (span_from text r.at).next text)) (sym line_told)
      ∙ ap (λ (x : LineReader). said ∷ lines_of (drop x.at text)) (sym read.moved)

  pub still : after.text ≡ r.text
  still = ap (λ (x : LineReader). x.text) read.moved

  pub within : after.at ≤ length text
  within = omega (arith, ap (λ (x : LineReader). x.at) read.moved, next_within text r.at there)

  pub plan_ends : is_mark said ≡ true → plan_from text r.at ≡ r.at
  plan_ends h = rw (here, h) (omega arith)

  pub plan_goes_on : is_mark said ≡ false → plan_from text r.at ≡ plan_from text after.at
  plan_goes_on h =
      let behind : after.at ≡ r.at + (length l.bytes.now + cond l.ended 1 0) =
      ap (λ (x : LineReader). x.at) read.moved ∙ next_behind text r.at there
      ∙ ap (λ (x : Line). r.at + (length x.bytes + cond x.ended 1 0)) (sym line_told) in
      rw (here, h) (omega (arith, behind))

-- where none is read, the text is at its end
pub plan_out : (r after : LineReader) → Reads r None after → r.at ≤ length r.text.now → plan_from r.text.now r.at ≡ length r.text.now
plan_out r after read most =
    let out = over_told r.text.now r.at (sym (ap (λ (x : Read). x.over) read.said)) in
    rw (no_line r.text.now r.at out) (omega (arith, out))
