-- Entries that lie one behind the other are read and written one by one: each more is the bytes behind those before it. Bytes stored one
-- after the other lie there as if laid at once.
use Prim.Native.Nat.{ℕ, zero, suc, ◌+◌, ◌*◌, ◌≤◌, ◌<◌}
use native.Mathlib.Nat.{mul-zero, mul-suc, add_comm}
use native.Mathlib.Omega.{arith}
use native.Mathlib.Numerals.{add-one}
use mathlib.Core.List.{List, [], ◌∷◌, ◌++◌, append_assoc, append-nil}
use mathlib.Core.Path.{◌≡◌, refl, sym, ap, ◌∙◌}
use lib.ListN.{length, take, drop, get_or, set, length-append, length-drop, drop_of_length-le}
use lib.Seq.{drop-drop, drop-cons, take-take, take-length, sets, sets-eq, take_all}
use Rattle.moves_text.specs.Buffer.{overlaid_at}
use Rattle.moves_text.proofs.Overlays.{none_laid, laid_then, overlaid_at_length}
use Rattle.plan_bytes.specs.Over.{bytes_from, entries_in}
use Rattle.plan_bytes.proofs.Laid.{cut_later}
use Rattle.cell_layout.specs.Layout.{value_of, bytes_of_each}

module _ {A : Type 0} where
  pub entries_more : (read : List ℕ → A) (size n : ℕ) (bytes : List ℕ)
      → entries_in read size (suc n) bytes ≡ entries_in read size n bytes ++ read (bytes_from (size * n) size bytes) ∷ []
  entries_more read size zero bytes = ap (λ k. read (bytes_from k size bytes) ∷ []) (sym (mul-zero size))
  entries_more read size (suc n) bytes =
      let behind = drop-drop (size * n) size bytes ∙ ap (λ k. drop k bytes) (add_comm size (size * n) ∙ sym (mul-suc size n)) in
      ap (λ xs. read (take size bytes) ∷ xs)
      (entries_more read size n (drop size bytes) ∙ ap (λ bs. entries_in read size n (drop size bytes) ++ read (take size bs) ∷ []) behind)

  pub joined_more : (write : A → List ℕ) (xs : List A) (n : ℕ) (d : A) → n < length xs
      → bytes_of_each write (take (suc n) xs) ≡ bytes_of_each write (take n xs) ++ write (get_or xs n d)
  joined_more write [] n d h = absurd (omega arith)
  joined_more write (x ∷ xs) zero d h = append-nil (write x)
  joined_more write (x ∷ xs) (suc n) d h =
      ap (λ bs. write x ++ bs) (joined_more write xs n d (omega arith)) ∙ sym (append_assoc (write x) (bytes_of_each write (take n xs)) (write (get_or xs n d)))

-- entries read piece by piece, k pieces an entry, from the list of the pieces
module _ (piece : List ℕ → ℕ) (size : ℕ) where
  first_pieces : (k m : ℕ) (bytes : List ℕ) → take k (entries_in piece size (k + m) bytes) ≡ entries_in piece size k bytes
  first_pieces zero m bytes = refl
  first_pieces (suc k) m bytes =
      let more : suc k + m ≡ suc (k + m) = omega arith in
      rw more (ap (λ xs. piece (take size bytes) ∷ xs) (first_pieces k m (drop size bytes)))

  later_pieces : (k m : ℕ) (bytes : List ℕ) → drop k (entries_in piece size (k + m) bytes) ≡ entries_in piece size m (drop (size * k) bytes)
  later_pieces zero m bytes =
      let none : 0 + m ≡ m = omega arith in
      rw (none, mul-zero) refl
  later_pieces (suc k) m bytes =
      let more : suc k + m ≡ suc (k + m) = omega arith in
      rw more
      (later_pieces k m (drop size bytes)
      ∙ ap (entries_in piece size m) (drop-drop (size * k) size bytes ∙ ap (λ n. drop n bytes) (add_comm size (size * k) ∙ sym (mul-suc size k))))

  pub by_pieces : {A : Type 0} (read whole : List ℕ → A) (k : ℕ) → ((bs : List ℕ) → whole (take (size * k) bs) ≡ read (entries_in piece size k bs))
      → (n : ℕ) (bytes : List ℕ) → entries_in read k n (entries_in piece size (k * n) bytes) ≡ entries_in whole (size * k) n bytes
  by_pieces read whole k same zero bytes = refl
  by_pieces read whole k same (suc n) bytes =
      let more : k * suc n ≡ k + k * n = mul-suc k n ∙ add_comm (k * n) k in
      rw (more, first_pieces k (k * n) bytes, later_pieces k (k * n) bytes, same bytes, by_pieces read whole k same n (drop (size * k) bytes)) refl

-- a part of a part
pub part_first : (m at n : ℕ) (bytes : List ℕ) → m ≤ n → take m (bytes_from at n bytes) ≡ bytes_from at m bytes
part_first m at n bytes h = take-take m n (drop at bytes) h

pub part_of_part : (from m at n : ℕ) (bytes : List ℕ) → from + m ≤ n → bytes_from from m (bytes_from at n bytes) ≡ bytes_from (at + from) m bytes
part_of_part from m at n bytes h = cut_later from m n (drop at bytes) h ∙ ap (take m) (drop-drop from at bytes)

-- an array that a part is copied into is that part
pub new_behind : (new some : List ℕ) → length some ≡ length new → take (length new) new ++ drop (length new) some ≡ new
new_behind new some e = rw (take-length new, drop_of_length-le some {i = length new} (omega arith)) (append-nil new)

-- a number of one byte, of two and of four
part_next : (at n : ℕ) (bytes : List ℕ) → at < length bytes → bytes_from at (suc n) bytes ≡ get_or bytes at 0 ∷ bytes_from (suc at) n bytes
part_next at n bytes h = ap (take (suc n)) (drop-cons bytes at 0 h)

number_next : (at n : ℕ) (bytes : List ℕ) → at < length bytes
    → value_of (bytes_from at (suc n) bytes) ≡ get_or bytes at 0 + 256 * value_of (bytes_from (suc at) n bytes)
number_next at n bytes h = ap value_of (part_next at n bytes h)

pub number_of_one : (at : ℕ) (bytes : List ℕ) → at < length bytes → get_or bytes at 0 ≡ value_of (bytes_from at 1 bytes)
number_of_one at bytes h = omega (arith, number_next at 0 bytes h)

pub number_of_two : (at : ℕ) (bytes : List ℕ) → at + 2 ≤ length bytes
    → get_or bytes at 0 + 256 * get_or bytes (at + 1) 0 ≡ value_of (bytes_from at 2 bytes)
number_of_two at bytes h =
    rw (add-one) (omega (arith, number_next at 1 bytes (omega arith), number_next (suc at) 0 bytes (omega arith)))

pub number_of_four : (at : ℕ) (bytes : List ℕ) → at + 4 ≤ length bytes
    → get_or bytes at 0 + 256 * (get_or bytes (at + 1) 0 + 256 * (get_or bytes (at + 2) 0 + 256 * get_or bytes (at + 3) 0)) ≡ value_of (bytes_from at 4 bytes)
number_of_four at bytes h =
    let second : at + 1 ≡ suc at = omega arith in
    let third : at + 2 ≡ suc (suc at) = omega arith in
    let fourth : at + 3 ≡ suc (suc at) + 1 = omega arith in
    rw (second, third, fourth)
    (omega (
      arith,
      number_next at 3 bytes (omega arith),
      number_next (suc at) 2 bytes (omega arith),
      number_of_two (suc (suc at)) bytes (omega arith),
    ))

-- entries of one size
pub joined_length : {A : Type 0} (write : A → List ℕ) (size : ℕ) → ((x : A) → length (write x) ≡ size) → (xs : List A)
    → length (bytes_of_each write xs) ≡ size * length xs
joined_length write size long [] = sym (mul-zero size)
joined_length write size long (x ∷ xs) =
    length-append (write x) (bytes_of_each write xs)
    ∙ ap (λ k. k + length (bytes_of_each write xs)) (long x)
    ∙ ap (λ k. size + k) (joined_length write size long xs)
    ∙ add_comm size (size * length xs)
    ∙ sym (mul-suc size (length xs))

-- where there is room
pub laid_whole : (at : ℕ) (bs bytes : List ℕ) → at + length bs ≤ length bytes → overlaid_at at bs bytes ≡ take at bytes ++ bs ++ drop (at + length bs) bytes
laid_whole at bs bytes h =
    rw (take_all (length (drop at bytes)) bs (omega (arith, length-drop at bytes)), drop-drop (length bs) at bytes, append_assoc (take at bytes) bs (drop (at + length bs) bytes)) refl

pub sets_overlaid : (at : ℕ) (bs bytes : List ℕ) → at + length bs ≤ length bytes → sets bytes at bs ≡ overlaid_at at bs bytes
sets_overlaid at bs bytes h = sets-eq bs bytes at h ∙ sym (laid_whole at bs bytes h)

pub one_stored : (at a : ℕ) (bytes : List ℕ) → at + 1 ≤ length bytes → set bytes at a ≡ overlaid_at at (a ∷ []) bytes
one_stored at a bytes h = sets_overlaid at (a ∷ []) bytes h

pub two_stored : (at a b : ℕ) (bytes : List ℕ) → at + 2 ≤ length bytes → set (set bytes at a) (at + 1) b ≡ overlaid_at at (a ∷ b ∷ []) bytes
two_stored at a b bytes h = rw add-one (sets_overlaid at (a ∷ b ∷ []) bytes h)

pub four_stored : (at a b c d : ℕ) (bytes : List ℕ) → at + 4 ≤ length bytes
    → set (set (set (set bytes at a) (at + 1) b) (at + 2) c) (at + 3) d ≡ overlaid_at at (a ∷ b ∷ c ∷ d ∷ []) bytes
four_stored at a b c d bytes h =
    let second : at + 1 ≡ suc at = omega arith in
    let third : at + 2 ≡ suc (suc at) = omega arith in
    let fourth : at + 3 ≡ suc (suc (suc at)) = omega arith in
    rw (second, third, fourth) (sets_overlaid at (a ∷ b ∷ c ∷ d ∷ []) bytes h)

-- what is laid behind what was laid
pub behind : (at : ℕ) (done new bytes : List ℕ) {offset : ℕ} {now next : List ℕ} → offset ≡ at + length done → now ≡ overlaid_at at done bytes
    → next ≡ overlaid_at offset new now → next ≡ overlaid_at at (done ++ new) bytes
behind at done new bytes {offset} e w put = (laid_then at done new bytes {end = offset + length new} (e, w) (refl, put)).1

-- the first i entries lie in the bytes from an offset on
module _ {A : Type 0} (write : A → List ℕ) (size from : ℕ) (xs : List A) (bytes : List ℕ) where
  abbrev pub EntriesLaid : ℕ → List ℕ → Type 0
  EntriesLaid i now = (length (bytes_of_each write (take i xs)) ≡ size * i) × (now ≡ overlaid_at from (bytes_of_each write (take i xs)) bytes)

  pub none_written : EntriesLaid 0 bytes
  none_written = (sym (mul-zero size), (none_laid from bytes).1)

  pub more_written : (i : ℕ) (d : A) {at : ℕ} {now next : List ℕ} → i < length xs → EntriesLaid i now → length (write (get_or xs i d)) ≡ size
      → at ≡ from + size * i → next ≡ overlaid_at at (write (get_or xs i d)) now → EntriesLaid (suc i) next
  more_written i d {at} {now} there w long e put =
      let new = write (get_or xs i d) in
      let more = joined_more write xs i d there in
      let offset : at ≡ from + length (bytes_of_each write (take i xs)) = e ∙ ap (λ k. from + k) (sym w.0) in (
        ap length more ∙ length-append (bytes_of_each write (take i xs)) new ∙ ap (λ k. k + length new) w.0 ∙ ap (λ k. size * i + k) long ∙ sym (mul-suc size i),
        behind from (bytes_of_each write (take i xs)) new bytes offset w.1 put ∙ ap (λ bs. overlaid_at from bs bytes) (sym more),
      )

  pub all_written : (i : ℕ) {now : List ℕ} → length xs ≤ i → EntriesLaid i now → now ≡ overlaid_at from (bytes_of_each write xs) bytes
  all_written i h w = w.1 ∙ ap (λ ys. overlaid_at from (bytes_of_each write ys) bytes) (take_all i xs h)

  pub written_length : (i : ℕ) {now : List ℕ} → EntriesLaid i now → length now ≡ length bytes
  written_length i w = ap length w.1 ∙ overlaid_at_length from (bytes_of_each write (take i xs)) bytes
