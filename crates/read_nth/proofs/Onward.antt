-- Reading on, the reader stands behind so many lines as it has given; at the end of the text it stays there.
use Rattle.std.proofs.Common.{◌≡◌, ℕ, zero, suc, ◌+◌, ◌≤◌, List, [], ◌∷◌, length, refl, ap, sym, subst, ◌∙◌, ◌-◌, arith, add-zero, zero-add, add-suc}
use Rattle.std.specs.Borrow.{Bor}
use Rattle.std.specs.Prelude.{Some, None}
use Rattle.std.specs.Iterator.{Yields, SkipsThenYields}
use Rattle.plan_text.specs.LineReading.{span_from}
use Rattle.plan_text.specs.NthLine.{offset_after, IsNth}
use Rattle.plan_text.specs.TextParts.{IsPart}
use Rattle.plan_text.specs.declared.LineSpan.{LineSpan}
use Rattle.plan_text.proofs.LineReading.{span_over, over_told}
use Rattle.read_lines.specs.LineReads.{Read, read_next, read_on, Reads}
use Rattle.read_lines.specs.declared.LineReader.{LineReader}
use Rattle.read_lines.specs.declared.TextLine.{TextLine}

-- the reader behind so many lines
abbrev pub behind : Bor (List ℕ) → ℕ → LineReader
behind text k = record { text = text; at = offset_after text.now k }

pub given : (text : Bor (List ℕ)) (k : ℕ) (ls : List TextLine) (r t : LineReader) → r ≡ behind text k → Yields Reads r ls t → t ≡ behind text (k + length ls)
given text k [] r t stands same = sym same ∙ stands ∙ ap (behind text) (sym (add-zero k))
given text k (l ∷ ls) r t stands (j, read, more) =
    given text (suc k) ls j t (read.moved ∙ ap read_on stands) more ∙ ap (behind text) (omega arith)

-- at the end of the text it stays there
stays : (text : List ℕ) (k j : ℕ) → length text ≤ offset_after text k → offset_after text (k + j) ≡ offset_after text k
stays text k zero out = ap (offset_after text) (add-zero k)
stays text k (suc j) out =
    ap (offset_after text) (add-suc k j)
    ∙ ap (λ (at : ℕ). (span_from text at).next) (stays text k j out)
    ∙ ap (λ (p : LineSpan). p.next) (span_over text (offset_after text k) out)

-- a line is the next after those passed over; where there is none, the part that is empty where the reader stands is that one
pub nth_read : (text : Bor (List ℕ)) (n : ℕ) (l : TextLine) (u : LineReader) → SkipsThenYields Reads (behind text 0) n (Some l) u → IsNth text (suc n) l.bytes
nth_read text n l u (ls, (t, before, read), many) =
    let stands : t ≡ behind text n = given text 0 ls (behind text 0) t refl before ∙ ap (behind text) (zero-add (length ls) ∙ many) in
    subst (λ (r : LineReader). IsPart r.text r.at (span_from r.text.now r.at).end l.bytes) stands read.part

pub nth_none : (text part : Bor (List ℕ)) (n : ℕ) (u : LineReader) → SkipsThenYields Reads (behind text 0) n None u → IsPart text u.at u.at part → IsNth text (suc n) part
nth_none text part n u (ls, (t, before, read), few) empty =
    let k = length ls in
    let stands : t ≡ behind text k = given text 0 ls (behind text 0) t refl before ∙ ap (behind text) (zero-add k) in
    let out : length text.now ≤ offset_after text.now k = over_told text.now (offset_after text.now k) (sym (ap (λ (x : Read). x.over) (read.said ∙ ap read_next stands))) in
    let here : u.at ≡ offset_after text.now k =
    ap (λ (r : LineReader). r.at) (read.moved ∙ ap read_on stands) ∙ ap (λ (p : LineSpan). p.next) (span_over text.now (offset_after text.now k) out) in
    let still : offset_after text.now n ≡ offset_after text.now k = ap (offset_after text.now) (omega arith) ∙ stays text.now k (n - k) out in
    let end : (span_from text.now (offset_after text.now n)).end ≡ u.at =
    ap (λ (at : ℕ). (span_from text.now at).end) still ∙ ap (λ (p : LineSpan). p.end) (span_over text.now (offset_after text.now k) out) ∙ sym here in
    rw (end, still, sym here) empty
