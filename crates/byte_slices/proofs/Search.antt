-- A search over a part of a list, and where it finds the byte.
use Prim.Native.Nat.{ℕ, ◌+◌, ◌-◌, ◌≤◌, ◌<◌, min}
use native.Mathlib.Omega.{arith}
use mathlib.Core.List.{List, []}
use mathlib.Core.Path.{◌≡◌, refl}
use lib.ListN.{length, take, drop, length-take, drop_of_length-le}
use Rattle.std.proofs.lemmas.List.{drop-take, take_min}
use Rattle.byte_slices.specs.Bytes.{slice, index_of}

module _ (b : ℕ) where
  module _ (from to : ℕ) (bs : List ℕ) where
    nothing_left : min to (length bs) ≤ from → slice from to bs ≡ []
    unfolding slice
    nothing_left h = drop_of_length-le (take to bs) (omega (arith, length-take to bs))

    pub index_past : min to (length bs) ≤ from → index_of b (slice from to bs) ≡ 0
    unfolding index_of
    index_past h = rw (nothing_left h) refl

    pub index_within : (end : ℕ) → end ≡ min to (length bs) → from < end → index_of b (slice from to bs) ≡ index_of b (take (end - from) (drop from bs))
    unfolding slice
    index_within end e h =
        let whole : from + (end - from) ≡ min to (length bs) = omega arith in
        rw (← drop-take, whole, take_min) refl
