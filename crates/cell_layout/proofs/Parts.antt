-- Each part ends where the next begins, and what is put into one goes no further than its end. So a part holds what was put into it, and what was put
-- into the others leaves it as it is.
use Prim.Native.Nat.{ℕ, zero, suc, ◌+◌, ◌-◌, ◌≤◌, ◌<◌}
use native.Mathlib.Omega.{arith}
use mathlib.Core.Bool.{cond}
use mathlib.Core.List.{List, [], ◌∷◌, append-nil}
use mathlib.Core.Logic.{◌≢◌, ⊎_elim}
use mathlib.Core.Path.{◌≡◌, refl, sym, ap, ◌∙◌}
use lib.Dec.{eqb}
use lib.ListN.{length, take, drop, get_or, length-take, length-drop, drop_of_length-le}
use lib.Seq.{take-nil, take_all, take_at, drop_at, drop-drop, length-take-le}
use borrow.Author.Tests.{eq-eqb, ne_eqb}
use Rattle.model.proofs.Decide.{decided, decides_eq, decides_lt}
use Rattle.plan_bytes.specs.Over.{bytes_from}
use Rattle.plan_bytes.proofs.Laid.{cut_later}
use Rattle.moves_text.specs.Buffer.{overlaid, overlaid_at}
use Rattle.moves_text.proofs.Overlays.{overlaid_none, nothing_overlaid, overlaid_at_length}
use Rattle.cell_layout.specs.Layout.{sizes, resources_part, types_part, rows_part, total, size_of, offset_of, cell_size, part_in, with_part, with_parts}

ends_before : (ns : List ℕ) (j k : ℕ) → j < k → total (take j ns) + get_or ns j 0 ≤ total (take k ns)
ends_before [] j k h = rw (take-nil j, take-nil k) (omega arith)
ends_before (n ∷ ns) j zero h = absurd (omega arith)
ends_before (n ∷ ns) zero (suc k) h = omega arith
ends_before (n ∷ ns) (suc j) (suc k) h = omega (arith, ends_before ns j k (omega arith))

ends_within : (ns : List ℕ) (k : ℕ) → total (take k ns) + get_or ns k 0 ≤ total ns
ends_within [] k = rw (take-nil k) (omega arith)
ends_within (n ∷ ns) zero = omega arith
ends_within (n ∷ ns) (suc k) = omega (arith, ends_within ns k)

-- new bytes laid over others: the first n, and those beyond the new
overlaid_first : (n : ℕ) (new bytes : List ℕ) → take n (overlaid (take n new) bytes) ≡ overlaid new (take n bytes)
overlaid_first zero new bytes = sym (overlaid_none new)
overlaid_first (suc n) [] bytes = rw (nothing_overlaid bytes, nothing_overlaid (take (suc n) bytes)) refl
overlaid_first (suc n) (a ∷ new) [] = refl
overlaid_first (suc n) (a ∷ new) (b ∷ bytes) = ap (λ (bs : List ℕ). a ∷ bs) (overlaid_first n new bytes)

overlaid_beyond : (m : ℕ) (new bytes : List ℕ) → length new ≤ m → drop m (overlaid new bytes) ≡ drop m bytes
overlaid_beyond m [] bytes h = ap (drop m) (nothing_overlaid bytes)
overlaid_beyond m (a ∷ new) [] h = refl
overlaid_beyond zero (a ∷ new) (b ∷ bytes) h = absurd (omega arith)
overlaid_beyond (suc m) (a ∷ new) (b ∷ bytes) h = overlaid_beyond m new bytes (omega arith)

-- the same from an offset on: the part there, and those before and behind it
module _ (at : ℕ) (new bytes : List ℕ) (h : at ≤ length bytes) where
  abbrev next : List ℕ
  next = overlaid_at at new bytes

  from_there : drop at next ≡ overlaid new (drop at bytes)
  from_there = drop_at (take at bytes) _ at (length-take-le at bytes h)

  before_it : (from n : ℕ) → from + n ≤ at → bytes_from from n next ≡ bytes_from from n bytes
  before_it from n room =
      let same : take at next ≡ take at bytes = take_at (take at bytes) _ at (length-take-le at bytes h) in
      sym (cut_later from n at next room) ∙ ap (bytes_from from n) same ∙ cut_later from n at bytes room

  behind_it : (from n : ℕ) → at + length new ≤ from → bytes_from from n next ≡ bytes_from from n bytes
  behind_it from n room =
      let m = from - at in
      let e : from ≡ at + m = omega arith in
      let same = sym (drop-drop m at next) ∙ ap (drop m) from_there ∙ overlaid_beyond m new (drop at bytes) (omega arith) ∙ drop-drop m at bytes in
      rw (e, same) refl

-- what lies in part j after something was put into part k, and into several
abbrev pub left_in : ℕ → List (ℕ × List ℕ) → List ℕ → List ℕ
left_in j [] old = old
left_in j ((k, new) ∷ more) old = left_in j more (cond (eqb k j) (overlaid new old) old)

module _ (k : ℕ) (new bytes : List ℕ) where
  abbrev cut : List ℕ
  cut = take (size_of k) new

  part_room : length (with_part k new bytes) ≡ length bytes
  part_room = overlaid_at_length (offset_of k) cut bytes

  abbrev Left : ℕ → Type 0
  Left j = part_in j (with_part k new bytes) ≡ cond (eqb k j) (overlaid new (part_in j bytes)) (part_in j bytes)

  part_left : cell_size ≤ length bytes → (j : ℕ) → Left j
  part_left h j = ⊎_elim here (λ differ. ⊎_elim (before differ) (behind differ) (decided (decides_lt j k))) (decided (decides_eq k j))
    where
      short : offset_of k ≤ length bytes
      short = omega (arith, ends_within sizes k)

      here : k ≡ j → Left j
      here e = rw (eq-eqb k j e, ← e) (ap (take (size_of k)) (from_there (offset_of k) cut bytes short) ∙ overlaid_first (size_of k) new (drop (offset_of k) bytes))

      before : k ≢ j → j < k → Left j
      before differ less = rw (ne_eqb k j differ) (before_it (offset_of k) cut bytes short (offset_of j) (size_of j) (ends_before sizes j k less))

      behind : k ≢ j → (¬ (j < k)) → Left j
      behind differ not-less =
          let ends = ends_before sizes k j (omega (arith, differ)) in
          rw (ne_eqb k j differ) (behind_it (offset_of k) cut bytes short (offset_of j) (size_of j) (omega (arith, length-take (size_of k) new, ends)))

pub parts_room : (ws : List (ℕ × List ℕ)) (bytes : List ℕ) → length (with_parts ws bytes) ≡ length bytes
parts_room [] bytes = refl
parts_room ((k, new) ∷ more) bytes = parts_room more (with_part k new bytes) ∙ part_room k new bytes

pub parts_left : (ws : List (ℕ × List ℕ)) (bytes : List ℕ) → cell_size ≤ length bytes → (j : ℕ) → part_in j (with_parts ws bytes) ≡ left_in j ws (part_in j bytes)
parts_left [] bytes h j = refl
parts_left ((k, new) ∷ more) bytes h j =
    parts_left more (with_part k new bytes) (omega (arith, part_room k new bytes)) j ∙ ap (left_in j more) (part_left k new bytes h j)

pub part_long : (k : ℕ) (bytes : List ℕ) → cell_size ≤ length bytes → length (part_in k bytes) ≡ size_of k
part_long k bytes h = length-take-le (size_of k) (drop (offset_of k) bytes) (omega (arith, length-drop (offset_of k) bytes, ends_within sizes k))

-- so a part into which nothing was put is as it was, and one into which last something of its size was put is that
abbrev pub PartsKept : List (ℕ × List ℕ) → List ℕ → List ℕ → Type 0
PartsKept ws new bytes = (j : ℕ) → ((old : List ℕ) → left_in j ws old ≡ old) → part_in j new ≡ part_in j bytes

abbrev pub Back : List (ℕ × List ℕ) → List ℕ → Type 0
Back ws new = (j : ℕ) (put : List ℕ) → ((old : List ℕ) → left_in j ws old ≡ overlaid put old) → length put ≡ size_of j → part_in j new ≡ put

module _ (ws : List (ℕ × List ℕ)) (bytes : List ℕ) (h : cell_size ≤ length bytes) where
  pub parts_kept : PartsKept ws (with_parts ws bytes) bytes
  parts_kept j none = parts_left ws bytes h j ∙ none (part_in j bytes)

  pub parts_back : Back ws (with_parts ws bytes)
  parts_back j put last e =
      let old = part_in j bytes in
      let long : length old ≡ size_of j = part_long j bytes h in
      parts_left ws bytes h j
      ∙ last old
      ∙ rw (take_all (length old) put (omega arith), drop_of_length-le old {i = length put} (omega arith)) (append-nil put)

-- a part as code writes it, and three of one byte at once
pub put_into : (k : ℕ) (new : List ℕ) {now next old : List ℕ} → length new ≡ size_of k → next ≡ overlaid_at (offset_of k) new now → now ≡ old → next ≡ with_part k new old
put_into k new {old = old} e put same =
    put ∙ ap (overlaid_at (offset_of k) new) same ∙ ap (λ bs. overlaid_at (offset_of k) bs old) (sym (take_all (size_of k) new (omega arith)))

pub counts_put : (a b c : ℕ) (bytes : List ℕ) → cell_size ≤ length bytes
    → overlaid_at (offset_of resources_part) (a ∷ b ∷ c ∷ []) bytes ≡ with_parts ((resources_part, a ∷ []) ∷ (types_part, b ∷ []) ∷ (rows_part, c ∷ []) ∷ []) bytes
counts_put a b c [] h = absurd (omega arith)
counts_put a b c (x ∷ []) h = absurd (omega arith)
counts_put a b c (x ∷ y ∷ []) h = absurd (omega arith)
counts_put a b c (x ∷ y ∷ z ∷ bytes) h = refl
