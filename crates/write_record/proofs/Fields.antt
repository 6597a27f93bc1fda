-- The fields of a record's line, each behind a tab.
use Prim.Native.Nat.{ℕ, ◌+◌, ◌*◌, ◌≤◌, ◌<◌}
use native.Mathlib.Numerals.{add-one}
use native.Mathlib.Omega.{arith}
use mathlib.Core.List.{List, [], ◌∷◌, ◌++◌, map, map-append, append_assoc, append-nil}
use mathlib.Core.Path.{◌≡◌, refl, sym, ap, ◌∙◌}
use lib.ListN.{length, take, get_or, set, length-set}
use lib.Seq.{take-suc, take_all}
use Rattle.plan_text.specs.Lines.{line_end, tab}
use Rattle.plan_text.specs.Records.{layout_of, numbers_of}
use Rattle.plan_text.specs.declared.Record.{Record}
use Rattle.moves_text.specs.Decimals.{decimal, line_with}
use Rattle.canonical_text.specs.CanonicalText.{letter_of, fields_of, record_text}
use Rattle.write_record.proofs.LineGrown.{pushed}

abbrev pub tabbed : List (List ℕ) → List ℕ
tabbed [] = []
tabbed (f ∷ fs) = tab ∷ f ++ tabbed fs

tabbed_more : (fs : List (List ℕ)) (f : List ℕ) → tabbed (fs ++ f ∷ []) ≡ tabbed fs ++ tab ∷ f
tabbed_more [] f = simp append-nil refl
tabbed_more (g ∷ fs) f = rw (tabbed_more fs f, append_assoc) refl

line_tabbed : (f : List ℕ) (fs : List (List ℕ)) → (f ++ tabbed fs) ++ line_end ∷ [] ≡ line_with (f ∷ fs)
line_tabbed f [] = rw append-nil refl
line_tabbed f (g ∷ fs) = rw (append_assoc, ← line_tabbed g fs) refl

-- what comes before the field of a number: the letter and the fields of those before it
abbrev pub line_to : ℕ → List ℕ → List ℕ → List ℕ
line_to i letter xs = letter ++ tabbed (map decimal (take i xs))

pub line_more : (letter xs : List ℕ) (i : ℕ) → i < length xs → line_to i letter xs ++ tab ∷ decimal (get_or xs i 0) ≡ line_to (i + 1) letter xs
line_more letter xs i h =
    append_assoc letter _ _
    ∙ sym (rw (add-one, take-suc xs i 0 h, map-append decimal (take i xs) (get_or xs i 0 ∷ [])) (ap (λ bs. letter ++ bs) (tabbed_more (map decimal (take i xs)) (decimal (get_or xs i 0)))))

pub line_whole : (rec : Record) (count i : ℕ) → count ≡ length (layout_of rec.section) → length (take count (numbers_of rec)) ≤ i
    → line_to i (letter_of rec) (take count (numbers_of rec)) ++ line_end ∷ [] ≡ record_text rec
line_whole rec count i counted all =
    ap (λ xs. (letter_of rec ++ tabbed (map decimal xs)) ++ line_end ∷ []) (take_all i (take count (numbers_of rec)) all)
    ∙ ap (λ k. (letter_of rec ++ tabbed (map decimal (take k (numbers_of rec)))) ++ line_end ∷ []) counted
    ∙ line_tabbed (letter_of rec) (fields_of rec)

-- a line as it grows: it has the fields of the first i numbers, and room for the others
pub record Grown (letter xs line : List ℕ) (to i : ℕ) : Type 0 where
  pub few : length xs ≤ 4
  pub room : (1 ≤ to) × (to ≤ 1 + 11 * i)
  pub size : length line ≡ 64
  pub done : take to line ≡ line_to i letter xs

pub grows : (letter xs line next : List ℕ) (to i end : ℕ) → Grown letter xs line to i → i < length xs
    → (end ≡ to + 1 + length (decimal (get_or xs i 0))) × (take end next ≡ take (to + 1) (set line to tab) ++ decimal (get_or xs i 0))
    → end ≤ to + 1 + 10 → length next ≡ length (set line to tab) → Grown letter xs next end (i + 1)
grows letter xs line next to i end g here put most same =
    record {
      few = g.few;
      room = (omega (arith, g.room, put.0), omega (arith, g.room));
      size = same ∙ length-set line to tab ∙ g.size;
      done =
          put.1
          ∙ ap (λ bs. bs ++ decimal (get_or xs i 0)) (pushed line to tab (omega (arith, g.room, g.size, g.few)) g.done)
          ∙ append_assoc (line_to i letter xs) (tab ∷ []) (decimal (get_or xs i 0))
          ∙ line_more letter xs i here;
    }

-- with its LF the line is the record's
pub line_made : (rec : Record) (count : ℕ) (line : List ℕ) (to i : ℕ) → count ≡ length (layout_of rec.section)
    → let xs = take count (numbers_of rec) in Grown (letter_of rec) xs line to i → i ≤ length xs → length xs ≤ i
    → take (to + 1) (set line to line_end) ≡ record_text rec
line_made rec count line to i counted g within all =
    pushed line to line_end (omega (arith, g.room, g.size, g.few)) g.done ∙ line_whole rec count i counted all
