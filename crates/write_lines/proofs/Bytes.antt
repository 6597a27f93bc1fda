-- A byte written behind the text of a sink lies there as a text of that byte, and nothing lies beyond the buffer.
use Prim.Native.Nat.{ℕ, zero, suc, ◌+◌, ◌-◌, ◌≤◌, ◌<◌, min}
use native.Mathlib.Omega.{arith}
use mathlib.Core.List.{List, [], ◌∷◌, append-nil}
use mathlib.Core.Path.{◌≡◌, refl, ap, ◌∙◌}
use lib.ListN.{length, take, set, drop_of_length-le}
use Rattle.std.proofs.lemmas.List.{length-take}
use lib.Seq.{take_all, take-nil}
use Rattle.moves_text.specs.Buffer.{overlaid_at}
use Rattle.moves_text.proofs.Overlays.{overlaid_none}
use Rattle.write_lines.specs.Sink.{with_text}
use Rattle.write_lines.specs.declared.Sink.{Sink}

byte_laid : (bs : List ℕ) (i b : ℕ) → i < length bs → set bs i b ≡ overlaid_at i (b ∷ []) bs
byte_laid [] i b h = absurd (omega arith)
byte_laid (x ∷ bs) zero b h = rw (take-nil (length bs)) refl
byte_laid (x ∷ bs) (suc i) b h = ap (λ (ys : List ℕ). x ∷ ys) (byte_laid bs i b (omega arith))

beyond_laid : (text bs : List ℕ) (i : ℕ) → length bs ≤ i → bs ≡ overlaid_at i text bs
beyond_laid text bs i h = rw (drop_of_length-le bs {i = i} h, overlaid_none text, take_all i bs h, append-nil) refl

module _ (b : ℕ) (s : Sink) {now : Sink} {end : ℕ} (ends : end ≡ min (now.at + 1) 18446744073709551615) where
  pub byte_put : s.at < length s.buffer.now → length s.buffer.now ≤ 18446744073709551615
      → now ≡ record s { buffer = record s.buffer { now = set s.buffer.now s.at b } } → record now { at = end } ≡ with_text (b ∷ []) s
  unfolding with_text
  byte_put room counted is =
      let one = take_all (18446744073709551615 - s.at) (b ∷ []) (omega arith) in
      let next : end ≡ s.at + 1 = ends ∙ ap (λ (x : Sink). min (x.at + 1) 18446744073709551615) is ∙ omega arith in
      let laid = byte_laid s.buffer.now s.at b room in
      rw one ((λ i. record (is i) { at = next i }) ∙ (λ i. record s { buffer = record s.buffer { now = laid i }; at = s.at + 1 }))

  pub byte_left_out : length s.buffer.now ≤ s.at → s.at ≤ 18446744073709551615 → now ≡ s → record now { at = end } ≡ with_text (b ∷ []) s
  unfolding with_text
  byte_left_out over counted is =
      let text = take (18446744073709551615 - s.at) (b ∷ []) in
      let next : end ≡ s.at + length text =
      ends ∙ ap (λ (x : Sink). min (x.at + 1) 18446744073709551615) is ∙ omega (arith, length-take (18446744073709551615 - s.at) (b ∷ [])) in
      let laid = beyond_laid text s.buffer.now s.at over in
      (λ i. record (is i) { at = next i }) ∙ (λ i. record s { buffer = record s.buffer { now = laid i }; at = s.at + length text })
