-- All is told by where the line ends.
use Rattle.std.proofs.Common.{◌≡◌, ℕ, ◌+◌, Bool, true, false, cond, List, length, sym, ap, ◌∙◌}
use lib.Dec.{ltb, leb}
use borrow.Author.Tests.{lt-ltb, le-ltb}
use Rattle.plan_text.specs.LineReading.{span_from}
use Rattle.plan_text.specs.declared.LineSpan.{LineSpan}
use Rattle.plan_text.proofs.LineReading.{span_by_end}
use Rattle.read_lines.proofs.line_at.Goals.{then-ended, else-ended}
use Rattle.read_lines.proofs.line_at.Goals as goal

-- what is said of a line that ends here, if the next begins there
abbrev told : List ℕ → ℕ → ℕ → ℕ → LineSpan
told text at end next = record { end = end; next = next; ended = ltb end (length text); over = leb (length text) at }

module _ (text : List ℕ) (at end next : ℕ) (e : end ≡ (span_from text at).end) where
  is-span : (b : Bool) → ltb end (length text) ≡ b → next ≡ cond b (end + 1) end → told text at end next ≡ span_from text at
  is-span b is after =
      ap (told text at end) (after ∙ sym (ap (λ (x : Bool). cond x (end + 1) end) is))
      ∙ ap (λ (n : ℕ). told text at n (cond (ltb n (length text)) (n + 1) n)) e
      ∙ sym (span_by_end text at)

pub returns : goal.returns
returns c =
    let a = c.args in
    let is = is-span a.text.now a.at c.line_end-end.result c.if-ended.next c.line_end-end.ensures in
    elim c.if-ended.branch [ then-ended w ↦ is true (lt-ltb _ _ w.if-ended.true) w.next-is | else-ended w ↦ is false (le-ltb _ _ w.if-ended.false) w.next-is ]
