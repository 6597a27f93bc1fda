-- A text laid over a buffer piece by piece lies there as if at once: each piece goes behind those before it, as far as there is room.
use Prim.Native.Nat.{ℕ, zero, suc, ◌+◌, ◌-◌, ◌≤◌, ◌<◌, min}
use native.Mathlib.Nat.{zero-add, suc-add}
use native.Mathlib.Omega.{arith}
use mathlib.Core.List.{List, [], ◌∷◌, ◌++◌}
use mathlib.Core.Logic.{⊎_elim}
use mathlib.Core.Path.{◌≡◌, refl, sym, ap, ◌∙◌}
use lib.ListN.{length, take, drop, drop_of_length-le, take-append-drop, length-append}
use lib.Seq.{take_all, take-nil, drop-nil, take-length, drop-length}
use borrow.Author.Tests.{le-leb, lt-leb}
use Rattle.model.proofs.Decide.{decided, decides_le}
use Rattle.moves_text.specs.Buffer.{filled, length_filled, overlaid, overlaid_at}

pub overlaid_none : (text : List ℕ) → overlaid text [] ≡ []
overlaid_none text = drop-nil (length text)

pub nothing_overlaid : (buffer : List ℕ) → overlaid [] buffer ≡ buffer
nothing_overlaid buffer = rw (take-nil (length buffer)) refl

pub overlaid_length : (text buffer : List ℕ) → length (overlaid text buffer) ≡ length buffer
overlaid_length [] buffer = ap length (nothing_overlaid buffer)
overlaid_length (b ∷ text) [] = refl
overlaid_length (b ∷ text) (c ∷ buffer) = ap suc (overlaid_length text buffer)

pub overlaid_then : (done new buffer : List ℕ) → overlaid_at (length done) new (overlaid done buffer) ≡ overlaid (done ++ new) buffer
overlaid_then [] new buffer = ap (overlaid new) (nothing_overlaid buffer)
overlaid_then (b ∷ done) new [] = overlaid_none new
overlaid_then (b ∷ done) new (c ∷ buffer) = ap (λ (bs : List ℕ). b ∷ bs) (overlaid_then done new buffer)

-- the same from an offset on
pub overlaid_at_then : (at : ℕ) (done new buffer : List ℕ)
    → overlaid_at (at + length done) new (overlaid_at at done buffer) ≡ overlaid_at at (done ++ new) buffer
overlaid_at_then zero done new buffer = rw (zero-add (length done)) (overlaid_then done new buffer)
overlaid_at_then (suc at) done new [] = rw (suc-add, overlaid_none done, overlaid_none new, overlaid_none (done ++ new)) refl
overlaid_at_then (suc at) done new (c ∷ buffer) = rw suc-add (ap (λ (bs : List ℕ). c ∷ bs) (overlaid_at_then at done new buffer))

-- a text that fits is laid whole
pub overlaid_whole : (text buffer : List ℕ) → length text ≤ length buffer → overlaid text buffer ≡ text ++ drop (length text) buffer
overlaid_whole text buffer h = rw (take_all (length buffer) text h) refl

pub overlaid_fits : (text buffer : List ℕ) → length text ≤ length buffer
    → (length text ≡ length_filled text buffer) × (overlaid text buffer ≡ filled text buffer)
overlaid_fits text buffer h =
    (rw (le-leb (length text) (length buffer) h) refl, rw (le-leb (length text) (length buffer) h) (overlaid_whole text buffer h))

pub nothing_filled : (text buffer : List ℕ) → length buffer < length text → (0 ≡ length_filled text buffer) × (buffer ≡ filled text buffer)
nothing_filled text buffer h = (rw (lt-leb (length text) (length buffer) h) refl, rw (lt-leb (length text) (length buffer) h) refl)

-- from an offset beyond the buffer on nothing is laid, and from its end on neither
pub overlaid_within : (at : ℕ) (text buffer : List ℕ) → overlaid_at (min at (length buffer)) text buffer ≡ overlaid_at at text buffer
overlaid_within at text buffer =
    ⊎_elim (λ (h : at ≤ length buffer). let same : min at (length buffer) ≡ at = omega arith in rw same refl)
    (λ (h : ¬ (at ≤ length buffer)).
    let same : min at (length buffer) ≡ length buffer = omega arith in
    rw (same, take-length buffer, drop-length buffer, take_all at buffer (omega arith), drop_of_length-le buffer {i = at} (omega arith)) refl)
    (decided (decides_le at (length buffer)))

-- as much as fits is laid by a copy
pub overlaid_copied : (text buffer : List ℕ) → let n = min (length text) (length buffer) in take n text ++ drop n buffer ≡ overlaid text buffer
overlaid_copied text buffer =
    ⊎_elim
    (λ (h : length text ≤ length buffer).
    let same : min (length text) (length buffer) ≡ length text = omega arith in rw (same, take-length text, take_all (length buffer) text h) refl)
    (λ (h : ¬ (length text ≤ length buffer)).
    let same : min (length text) (length buffer) ≡ length buffer = omega arith in
    rw (same, drop-length buffer, drop_of_length-le buffer {i = length text} (omega arith)) refl)
    (decided (decides_le (length text) (length buffer)))

pub overlaid_at_length : (at : ℕ) (text buffer : List ℕ) → length (overlaid_at at text buffer) ≡ length buffer
overlaid_at_length at text buffer =
    omega (
      arith,
      length-append (take at buffer) (overlaid text (drop at buffer)),
      overlaid_length text (drop at buffer),
      length-append (take at buffer) (drop at buffer),
      ap length (take-append-drop at buffer),
    )

-- what is laid from one offset of a buffer on, up to the offset at which more goes, and the buffer as it is now
abbrev pub Laid : ℕ → List ℕ → List ℕ → ℕ → List ℕ → Type 0
Laid from done buffer at now = (at ≡ from + length done) × (now ≡ overlaid_at from done buffer)

pub none_laid : (from : ℕ) (buffer : List ℕ) → Laid from [] buffer from buffer
none_laid from buffer =
    (omega arith, rw (nothing_overlaid (drop from buffer)) (sym (take-append-drop from buffer)))

pub laid_then : (from : ℕ) (done new buffer : List ℕ) {at end : ℕ} {now next : List ℕ} → Laid from done buffer at now → Laid at new now end next
    → Laid from (done ++ new) buffer end next
laid_then from done new buffer {now = now} w put = (
  omega (arith, w.0, put.0, length-append done new),
  put.1
      ∙ ap (λ k. overlaid_at k new now) w.0
      ∙ ap (overlaid_at (from + length done) new) w.1
      ∙ overlaid_at_then from done new buffer,
)

-- a text that is put into a buffer from an offset on: its length, and the buffer as it is then
abbrev pub Put : ℕ → List ℕ → List ℕ → ℕ → List ℕ → Type 0
Put at text buffer n next = (n ≡ length text) × (next ≡ overlaid_at at text buffer)

pub none_put : (at : ℕ) (buffer : List ℕ) → Put at [] buffer 0 buffer
none_put at buffer = (refl, (none_laid at buffer).1)

pub put_then : (at : ℕ) (done new buffer : List ℕ) {offset n m : ℕ} {now next : List ℕ} → offset ≡ at + n → Put at done buffer n now
    → Put offset new now m next → Put at (done ++ new) buffer (n + m) next
put_then at done new buffer {offset} {n} {m} behind w put = (
  omega (arith, w.0, put.0, length-append done new),
  (laid_then at done new buffer {at = offset} {end = offset + m} (omega (arith, w.0), w.1) (omega (arith, put.0), put.1)).1,
)

pub put_as : (at : ℕ) (buffer : List ℕ) {text same : List ℕ} {n : ℕ} {next : List ℕ} → text ≡ same → Put at text buffer n next → Put at same buffer n next
put_as at buffer e put = (put.0 ∙ ap length e, put.1 ∙ ap (λ bs. overlaid_at at bs buffer) e)

-- the same where the offset was cut to the buffer, of what is put and of what is laid
pub put_from : (at : ℕ) (text buffer : List ℕ) {from n : ℕ} {next : List ℕ} → from ≡ min at (length buffer) → Put from text buffer n next
    → Put at text buffer n next
put_from at text buffer cut put = (put.0, put.1 ∙ ap (λ k. overlaid_at k text buffer) cut ∙ overlaid_within at text buffer)

pub laid_from : (at : ℕ) (line buffer : List ℕ) {from end : ℕ} {now : List ℕ} → from ≡ min at (length buffer) → Laid from line buffer end now
    → Put at line buffer (end - from) now
laid_from at line buffer cut w =
    (omega (arith, w.0), w.1 ∙ ap (λ k. overlaid_at k line buffer) cut ∙ overlaid_within at line buffer)

-- a whole that is laid from the start of the buffer on in two parts
pub whole_laid : (done new : List ℕ) {whole : List ℕ} (buffer : List ℕ) {at end : ℕ} {first last : List ℕ} → done ++ new ≡ whole → Put 0 done buffer at first
    → Laid at new first end last → Put 0 whole buffer end last
whole_laid done new buffer joined w put =
    let l = laid_then 0 done new buffer (omega (arith, w.0), w.1) put in put_as 0 buffer joined (omega (arith, l.0), l.1)
