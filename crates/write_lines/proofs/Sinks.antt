-- Texts put into a sink one behind the other lie there as one text.
use Prim.Native.Nat.{ℕ, zero, suc, ◌+◌, ◌-◌, ◌≤◌, min}
use native.Mathlib.Numerals.{unary_clauses}
use native.Mathlib.Omega.{arith}
use mathlib.Core.List.{List, [], ◌∷◌, ◌++◌}
use mathlib.Core.Path.{◌≡◌, refl, sym, ap, ◌∙◌}
use lib.ListN.{length, take, drop, length-append}
use lib.Seq.{take_all, take-nil}
use Rattle.std.proofs.lemmas.List.{length-take}
use Rattle.moves_text.specs.Buffer.{overlaid, overlaid_at}
use Rattle.moves_text.proofs.Overlays.{overlaid_at_then, overlaid_at_length, overlaid_within, none_laid}
use Rattle.write_lines.specs.Sink.{with_text}
use Rattle.write_lines.specs.declared.Sink.{Sink}

take_two : (n : ℕ) (a b : List ℕ) → take n (a ++ b) ≡ take n a ++ take (n - length (take n a)) b
take_two zero a b = refl
take_two (suc n) [] b = simp unary_clauses refl
take_two (suc n) (x ∷ a) b = simp unary_clauses (ap (λ (bs : List ℕ). x ∷ bs) (take_two n a b))

-- what is counted, from an offset on
abbrev with_counted : List ℕ → Sink → Sink
with_counted counted s = record s { buffer = record s.buffer { now = overlaid_at s.at counted s.buffer.now }; at = s.at + length counted }

counted_then : (a b : List ℕ) (s : Sink) → with_counted b (with_counted a s) ≡ with_counted (a ++ b) s
counted_then a b s =
    let end : s.at + length a + length b ≡ s.at + length (a ++ b) = omega (arith, length-append a b) in
    let laid = overlaid_at_then s.at a b s.buffer.now in
    λ i. record s { buffer = record s.buffer { now = laid i }; at = end i }

pub text_then : (a b : List ℕ) (s : Sink) → with_text b (with_text a s) ≡ with_text (a ++ b) s
unfolding with_text
text_then a b s =
    let n = 18446744073709551615 - s.at in
    let left : 18446744073709551615 - (s.at + length (take n a)) ≡ n - length (take n a) = omega arith in
    ap (λ k. with_counted (take k b) (with_counted (take n a) s)) left
    ∙ counted_then (take n a) (take (n - length (take n a)) b) s
    ∙ ap (λ bs. with_counted bs s) (sym (take_two n a b))

pub nothing_put : (s : Sink) → with_text [] s ≡ s
unfolding with_text
nothing_put s =
    let none = none_laid s.at s.buffer.now in
    rw (take-nil (18446744073709551615 - s.at)) (λ i. record s { buffer = record s.buffer { now = sym none.1 i }; at = sym none.0 i })

-- what is counted of any text
text_counted : (text : List ℕ) (s : Sink) → s.at ≤ 18446744073709551615
    → (with_text text s).at ≡ min (s.at + length text) 18446744073709551615
unfolding with_text
text_counted text s counted = omega (arith, length-take (18446744073709551615 - s.at) text)

-- a text that the length still counts
pub text_whole : (text : List ℕ) (s : Sink) → s.at + length text ≤ 18446744073709551615
    → ((with_text text s).at ≡ s.at + length text) × ((with_text text s).buffer.now ≡ overlaid_at s.at text s.buffer.now)
unfolding with_text
text_whole text s counted =
    let all = take_all (18446744073709551615 - s.at) text (omega arith) in
    (ap (λ bs. s.at + length bs) all, ap (λ bs. overlaid_at s.at bs s.buffer.now) all)

-- the same of a sink as it is then
pub behind_whole : (text : List ℕ) (s t : Sink) → t ≡ with_text text s → s.at + length text ≤ 18446744073709551615
    → (t.at ≡ s.at + length text) × (t.buffer.now ≡ overlaid_at s.at text s.buffer.now)
behind_whole text s t put counted =
    let w = text_whole text s counted in (ap (λ (u : Sink). u.at) put ∙ w.0, ap (λ (u : Sink). u.buffer.now) put ∙ w.1)

-- of a sink that begins at an offset of the buffer, or where that is beyond it at its end
pub put_at : (text : List ℕ) (at : ℕ) (s t : Sink) → s.at ≡ min at (length s.buffer.now) → t ≡ with_text text s → s.at + length text ≤ 18446744073709551615
    → (t.at ≡ s.at + length text) × (t.buffer.now ≡ overlaid_at at text s.buffer.now)
put_at text at s t from put counted =
    let w = behind_whole text s t put counted in
    (w.0, w.1 ∙ ap (λ k. overlaid_at k text s.buffer.now) from ∙ overlaid_within at text s.buffer.now)

-- of a sink that had nothing
module _ (text : List ℕ) (s t : Sink) (new : s.at ≡ 0) (put : t ≡ with_text text s) where
  pub new_counted : t.at ≡ min (length text) 18446744073709551615
  new_counted = omega (arith, ap (λ (u : Sink). u.at) put, text_counted text s (omega arith))

  pub new_whole : length text ≤ 18446744073709551615 → (t.at ≡ length text) × (t.buffer.now ≡ overlaid text s.buffer.now)
  new_whole counted =
      let w = text_whole text s (omega arith) in (
        omega (arith, ap (λ (u : Sink). u.at) put, w.0),
        ap (λ (u : Sink). u.buffer.now) put ∙ w.1 ∙ ap (λ k. overlaid_at k text s.buffer.now) new,
      )

-- of one over the rest of a buffer, from an offset on: the length is that of the text at every offset
pub put_rest : (text : List ℕ) (at : ℕ) (whole : List ℕ) (s t : Sink) → s.at ≡ 0 → s.buffer.now ≡ drop (min at (length whole)) whole → t ≡ with_text text s
    → length text ≤ 18446744073709551615 → (t.at ≡ length text) × (take (min at (length whole)) whole ++ t.buffer.now ≡ overlaid_at at text whole)
put_rest text at whole s t new rest put counted =
    let w = new_whole text s t new put counted in
    let first = take (min at (length whole)) whole in
    (w.0, ap (λ bs. first ++ bs) (w.1 ∙ ap (λ bs. overlaid text bs) rest) ∙ overlaid_within at text whole)

-- the buffer stays the one that was lent
pub same_lent : (text : List ℕ) (s t : Sink) → t ≡ with_text text s → t.buffer.ghost_name ≡ s.buffer.ghost_name
unfolding with_text
same_lent text s t put = ap (λ (u : Sink). u.buffer.ghost_name) put

-- what is counted never lessens, and the buffer keeps its length
pub text_behind : (text : List ℕ) (s : Sink) → (s.at ≤ (with_text text s).at) × (length (with_text text s).buffer.now ≡ length s.buffer.now)
unfolding with_text
text_behind text s = (omega arith, overlaid_at_length s.at (take (18446744073709551615 - s.at) text) s.buffer.now)

-- the same of a sink as it is then
pub counted_on : (text : List ℕ) (s t : Sink) → t ≡ with_text text s → s.at ≤ t.at
counted_on text s t put = omega (arith, ap (λ (u : Sink). u.at) put, (text_behind text s).0)
