-- The number that digits say: what is left to read after those at hand.
use Prim.Native.Nat.{ℕ, ◌+◌, ◌-◌, ◌*◌, ◌≤◌, ◌<◌}
use native.Mathlib.Numerals.{add-one}
use mathlib.Core.Bool.{Bool, true, false, cond}
use mathlib.Core.List.{List, ◌∷◌}
use mathlib.Core.Path.{◌≡◌, refl, ◌∙◌}
use lib.ListN.{length, drop, get_or, drop_of_length-le}
use lib.Seq.{drop-cons}
use Rattle.model.specs.Numbers.{each}
use Rattle.std.specs.Prelude.{Option, Some, None}
use Rattle.plan_text.specs.Records.{value_on}
use Rattle.plan_text.specs.RecordTests.{is_digit, is_numeral}
use Rattle.plan_text.specs.ReaderInternals.{value_read}

-- the number of digits after those of x, where they are digits
abbrev pub digits_on : ℕ → List ℕ → Option ℕ
digits_on x bs = cond (each is_digit bs) (Some (value_on x bs)) None

module _ (bs : List ℕ) (i x : ℕ) where
  here : i < length bs → digits_on x (drop i bs) ≡ digits_on x (get_or bs i 0 ∷ drop (i + 1) bs)
  here h = rw (add-one, drop-cons bs i 0) refl

  pub digit_next : i < length bs → is_digit (get_or bs i 0) ≡ true → digits_on x (drop i bs) ≡ digits_on (10 * x + (get_or bs i 0 - 48)) (drop (i + 1) bs)
  digit_next h k = here h ∙ rw k refl

  pub digit_bad : i < length bs → is_digit (get_or bs i 0) ≡ false → digits_on x (drop i bs) ≡ None
  digit_bad h k = here h ∙ rw k refl

  pub digits_end : length bs ≤ i → digits_on x (drop i bs) ≡ Some x
  digits_end h = rw (drop_of_length-le bs {i = i}) refl

-- so a field is a numeral exactly where a number is read
module _ (f : List ℕ) where
  pub read_none : value_read f ≡ None → is_numeral f ≡ false
  read_none = step (is_numeral f)
    where
      step : (b : Bool) → cond b (Some (value_on 0 f)) None ≡ None → b ≡ false
      step true e = cc
      step false e = refl

  pub read_some : (x : ℕ) → value_read f ≡ Some x → (is_numeral f ≡ true) × (x ≡ value_on 0 f)
  read_some x = step (is_numeral f)
    where
      step : (b : Bool) → cond b (Some (value_on 0 f)) None ≡ Some x → (b ≡ true) × (x ≡ value_on 0 f)
      step true e = (refl, cc)
      step false e = absurd (cc)
