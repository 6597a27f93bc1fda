-- At the end of the text the reader says so and stays; else it goes on behind a line that lies within the text, with less of the text left.
use Rattle.std.proofs.Common.{◌≡◌, ◌+◌, ◌-◌, ◌<◌, ◌≤◌, ℕ, Bool, false, List, length, take, drop, rules, arith, sym, ap, ◌∙◌}
use Rattle.plan_text.specs.LineReading.{span_from}
use Rattle.plan_text.specs.TextParts.{part_start}
use Rattle.plan_text.specs.declared.LineSpan.{LineSpan}
use Rattle.plan_text.proofs.LineReading.{left_told, end_bounds}
use Rattle.read_lines.specs.LineReads.{Read}
use Rattle.read_lines.proofs.ToEnd.{reads_none, less_left}
use Rattle.read_lines.proofs.LineReaderIterator.next.Goals as goal

-- a line that ends where the definition says, while something is left
module _ (text : List ℕ) (at : ℕ) (p : LineSpan) (e : p ≡ span_from text at) (left : p.over ≡ false) where
  bounds : (at ≤ p.end) × (p.end ≤ length text)
  bounds = end_bounds text at p.end (ap (λ (q : LineSpan). q.end) e) (left_told text at (sym (ap (λ (q : LineSpan). q.over) e) ∙ left))

  -- so it begins where its part does
  begins : (n : ℕ) → at + n ≡ n + part_start text at p.end
  begins n = omega (arith, bounds.0, bounds.1)

pub returns-then-span-clause-steps : goal.returns-then-span-clause-steps
returns-then-span-clause-steps c = reads_none c.args.self.now (sym (ap (λ (p : LineSpan). p.over) c.line_at-span.ensures) ∙ c.if-span.true)

pub slice_bounds-result-count : goal.slice_bounds-result-count
slice_bounds-result-count c =
    let r = c.args.self.now in (bounds r.text.now r.at c.line_at-span.result c.line_at-span.ensures c.if-span.false).0

pub slice_bounds-result-start : goal.slice_bounds-result-start
slice_bounds-result-start c =
    let r = c.args.self.now in (bounds r.text.now r.at c.line_at-span.result c.line_at-span.ensures c.if-span.false).0

pub slice_bounds-result-end : goal.slice_bounds-result-end
slice_bounds-result-end c =
    let r = c.args.self.now in (bounds r.text.now r.at c.line_at-span.result c.line_at-span.ensures c.if-span.false).1

pub returns-clause-steps : goal.returns-clause-steps
returns-clause-steps c =
    let r = c.args.self.now in
    let p = c.line_at-span.result in
    let e = c.line_at-span.ensures in
    let line : LineSpan → Bool → Read =
    λ q over. record { line = record { bytes = take (q.end - r.at) (drop r.at r.text.now); ended = q.ended }; over = over } in
    record {
      said = ap (line p) (sym c.if-span.false) ∙ ap (λ (q : LineSpan). line q q.over) e;
      part =
          record {
            bytes = ap (λ (q : LineSpan). take (q.end - r.at) (drop r.at r.text.now)) e;
            address =
                ap (λ n. (r.text.ref_ptr.0, n))
                (begins r.text.now r.at p e c.if-span.false r.text.ref_ptr.1 ∙ ap (λ (q : LineSpan). r.text.ref_ptr.1 + part_start r.text.now r.at q.end) e);
          };
      moved = ap (λ (q : LineSpan). record { text = r.text; at = q.next }) e;
    }

pub returns-clause-goes : goal.returns-clause-goes
returns-clause-goes c =
    let r = c.args.self.now in
    let there = sym (ap (λ (p : LineSpan). p.over) c.line_at-span.ensures) ∙ c.if-span.false in
    let less : length r.text.now - c.line_at-span.result.next < length r.text.now - r.at = rw c.line_at-span.ensures (less_left r there) in
    search rules
