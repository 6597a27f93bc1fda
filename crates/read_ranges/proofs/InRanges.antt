-- The test of all fields after those that have passed: of the field here, and of those after it.
use Prim.Native.Nat.{ℕ, ◌+◌, ◌≤◌, ◌<◌}
use native.Mathlib.Numerals.{add-one}
use native.Mathlib.Omega.{arith}
use mathlib.Core.Bool.{Bool, true, false, ◌&&◌, and-false}
use mathlib.Core.List.{List, map}
use mathlib.Core.Path.{◌≡◌, refl, ◌∙◌}
use lib.Dec.{leb}
use lib.ListN.{length, drop, get_or, length-map, drop_of_length-le}
use lib.Seq.{drop-cons}
use borrow.Author.Tests.{le-leb, lt-leb}
use Rattle.std.proofs.Math.ListN.{get_or-map}
use Rattle.plan_text.specs.RecordTests.{Known, lowest_in, highest_in, fits_fields}
use Rattle.plan_text.specs.Records as records
use Rattle.read_ranges.specs.declared.Field.{Field}
use Rattle.read_ranges.specs.declared.Field.TheVariants.{Between}
use Rattle.read_ranges.specs.Table.{field_said}

module _ (k : Known) (before i : ℕ) (fs : List Field) (xs : List ℕ) where
  abbrev from_here : Bool
  from_here = fits_fields k before (drop i (map field_said fs)) (drop i xs)

  module _ (field : i < length fs) (number : i < length xs) where
    abbrev f : records.Field
    f = field_said (get_or fs i (Between 0 0))

    abbrev x : ℕ
    x = get_or xs i 0

    abbrev after_it : Bool
    after_it = fits_fields k x (drop (i + 1) (map field_said fs)) (drop (i + 1) xs)

    here : from_here ≡ (leb (lowest_in f) x && leb x (highest_in k before f) && after_it)
    here =
        let there : i < length (map field_said fs) = omega (arith, length-map fs field_said) in
        rw (add-one, drop-cons (map field_said fs) i (records.between 0 0), drop-cons xs i 0, get_or-map field_said fs i (Between 0 0)) refl

    pub under : x < lowest_in f → from_here ≡ false
    under h = here ∙ rw (lt-leb _ _ h) refl

    pub over : highest_in k before f < x → from_here ≡ false
    over h = here ∙ rw (lt-leb _ _ h, and-false (leb (lowest_in f) x)) refl

    pub passed : lowest_in f ≤ x → x ≤ highest_in k before f → from_here ≡ after_it
    passed l h = here ∙ rw (le-leb _ _ l, le-leb _ _ h) refl

  pub none_left : length fs ≤ i → from_here ≡ true
  none_left h = rw (drop_of_length-le (map field_said fs) {i = i} (omega (arith, length-map fs field_said))) refl
