-- What is computed of an event line is what it means: its letter is one byte and its fields are counted as they are read, so each
-- event's test passes exactly when the line's parts write it. A skipped line has none of the letters, so no line means two things.
use Prim.Native.Nat.{ℕ, suc, ◌≤◌}
use native.Mathlib.Omega.{arith}
use mathlib.Core.Bool.{Bool, true, false, cond, ◌&&◌, false≢true}
use mathlib.Core.List.{List, [], ◌∷◌}
use mathlib.Core.Logic.{◌≢◌}
use mathlib.Core.Path.{◌≡◌, refl, sym, ◌∙◌}
use lib.Dec.{eqb}
use lib.ListN.{length, get_or}
use borrow.Author.Tests.{eqb-true}
use Rattle.events.specs.declared.Event.{Event}
use Rattle.events.specs.declared.Event.TheVariants.{Load, Advance, Unload, Pull}
use Rattle.model.specs.Numbers.{Each}
use Rattle.model.proofs.Decide.{holds, passes, decides_eq, ◌and◌}
use Rattle.plan_text.specs.Lines.{Line, wider, tab, hash, is_skipped, columns, letter_in, letter_byte, fields_in}
use Rattle.plan_text.specs.Records.{IsNumeral}
use Rattle.plan_text.specs.RecordTests.{fields_read}
use Rattle.plan_text.proofs.Split.{split_some}
use Rattle.plan_text.proofs.LineForm.{decides_numeral, decides_numbers}
use Rattle.moves_text.specs.EventLines.{FieldSays, LineSays, Means, event_with, event_in}
use Rattle.moves_text.specs.declared.EventLine.{EventLine}
use Rattle.moves_text.specs.declared.EventLine.TheVariants.{Skipped, Malformed, Given}

-- a letter is one byte
letter_told : (p : List ℕ) (b : ℕ) → letter_byte p ≡ suc b → p ≡ suc b ∷ []
letter_told [] b e = absurd (omega arith)
letter_told (c ∷ []) b e = rw e refl
letter_told (c ∷ d ∷ p) b e = absurd (omega arith)

-- the parts of a line: a letter with so many fields, each a number
record Lettered (ps : List (List ℕ)) (letter m : ℕ) : Type 0 where
  head : letter_in ps ≡ letter ∷ []
  many : length (fields_in ps) ≡ m
  each : Each IsNumeral (fields_in ps)

-- what is read of parts: the numbers, the test of an event, and the event
abbrev number : List (List ℕ) → ℕ → ℕ
number ps i = get_or (fields_read (fields_in ps)).numbers i 0

abbrev passed : List (List ℕ) → ℕ → ℕ → Bool
passed ps letter m = eqb (letter_byte (letter_in ps)) letter && eqb (fields_read (fields_in ps)).count m

abbrev event_of : List (List ℕ) → EventLine
event_of ps = event_with (letter_byte (letter_in ps)) (fields_read (fields_in ps))

lettered : (ps : List (List ℕ)) (b m : ℕ) → m ≤ 4 → passed ps (suc b) m ≡ true → Lettered ps (suc b) m
lettered ps b m few e =
    let h = holds (decides_eq (letter_byte (letter_in ps)) (suc b) and decides_numbers (fields_in ps) m few) e in
    record { head = letter_told (letter_in ps) b h.0; many = h.1.0; each = h.1.1 }

-- the parts with one field and with two, and what is read of them
one_field : (letter : ℕ) (ps : List (List ℕ)) → ps ≢ [] → Lettered ps letter 1
    → (f : List ℕ) × (ps ≡ (letter ∷ []) ∷ f ∷ []) × FieldSays f (number ps 0)
one_field letter [] some h = absurd (some refl)
one_field letter (p ∷ []) some h = absurd (omega (arith, h.many))
one_field letter (p ∷ f ∷ []) some h = (f, rw h.head refl, (h.each.0, rw (passes (decides_numeral f) h.each.0) refl))
one_field letter (p ∷ f ∷ g ∷ fs) some h = absurd (omega (arith, h.many))

two_fields : (letter : ℕ) (ps : List (List ℕ)) → ps ≢ [] → Lettered ps letter 2
    → (f g : List ℕ) × (ps ≡ (letter ∷ []) ∷ f ∷ g ∷ []) × FieldSays f (number ps 0) × FieldSays g (number ps 1)
two_fields letter [] some h = absurd (some refl)
two_fields letter (p ∷ []) some h = absurd (omega (arith, h.many))
two_fields letter (p ∷ f ∷ []) some h = absurd (omega (arith, h.many))
two_fields letter (p ∷ f ∷ g ∷ []) some h =
    let first = passes (decides_numeral f) h.each.0 in
    let second = passes (decides_numeral g) h.each.1.0 in
    (f, g, rw h.head refl, (h.each.0, rw (first, second) refl), (h.each.1.0, rw (first, second) refl))
two_fields letter (p ∷ f ∷ g ∷ k ∷ fs) some h = absurd (omega (arith, h.many))

-- an event that is read is written
abbrev Told : List ℕ → EventLine → Type 0
Told bytes Skipped = ⊥
Told bytes Malformed = Unit {0}
Told bytes (Given e) = LineSays bytes e

event_read : (bytes : List ℕ) → Told bytes (event_of (columns bytes))
event_read bytes = go (passed ps 76 2) (passed ps 65 1) (passed ps 85 1) (passed ps 88 1) refl refl refl refl
  where
    ps : List (List ℕ)
    ps = columns bytes

    go : (a b c d : Bool) → passed ps 76 2 ≡ a → passed ps 65 1 ≡ b → passed ps 85 1 ≡ c → passed ps 88 1 ≡ d
        → Told bytes
        (cond a (Given (Load (number ps 0) (number ps 1)))
        (cond b (Given (Advance (number ps 0)))
        (cond c (Given (Unload (number ps 0))) (cond d (Given (Pull (number ps 0))) Malformed))))
    go true b c d e k m w = two_fields 76 ps (split_some tab bytes) (lettered ps 75 2 (omega arith) e)
    go false true c d e k m w = one_field 65 ps (split_some tab bytes) (lettered ps 64 1 (omega arith) k)
    go false false true d e k m w = one_field 85 ps (split_some tab bytes) (lettered ps 84 1 (omega arith) m)
    go false false false true e k m w = one_field 88 ps (split_some tab bytes) (lettered ps 87 1 (omega arith) w)
    go false false false false e k m w = tt

-- and one that is written is read
event_written : (bytes : List ℕ) (e : Event) → LineSays bytes e → event_of (columns bytes) ≡ Given e
event_written bytes (Load n t) (f, g, whole, says, also) =
    rw (whole, passes (decides_numeral f) says.0, passes (decides_numeral g) also.0, says.1, also.1) refl
event_written bytes (Advance n) (f, whole, says) = rw (whole, passes (decides_numeral f) says.0, says.1) refl
event_written bytes (Unload n) (f, whole, says) = rw (whole, passes (decides_numeral f) says.0, says.1) refl
event_written bytes (Pull n) (f, whole, says) = rw (whole, passes (decides_numeral f) says.0, says.1) refl

-- the first byte of a skipped line's letter is `#`, if there is one, so it writes no event
skipped_letter : (bytes : List ℕ) → is_skipped bytes ≡ true → get_or (letter_in (columns bytes)) 0 hash ≡ hash
skipped_letter [] e = refl
skipped_letter (b ∷ bs) e = rw (eqb-true b hash e) (widened (columns bs))
  where
    widened : (ps : List (List ℕ)) → get_or (letter_in (wider hash ps)) 0 hash ≡ hash
    widened [] = refl
    widened (p ∷ ps) = refl

skipped_writes_none : (bytes : List ℕ) (e : Event) → is_skipped bytes ≡ true → ¬ LineSays bytes e
skipped_writes_none bytes (Load n t) skipped h = omega (arith, rw h.2 at (skipped_letter bytes skipped))
skipped_writes_none bytes (Advance n) skipped h = omega (arith, rw h.1 at (skipped_letter bytes skipped))
skipped_writes_none bytes (Unload n) skipped h = omega (arith, rw h.1 at (skipped_letter bytes skipped))
skipped_writes_none bytes (Pull n) skipped h = omega (arith, rw h.1 at (skipped_letter bytes skipped))

module _ (l : Line) where
  -- what is computed of an event line is what document 01 words
  pub line_means : Means l (event_in l)
  unfolding event_in
  line_means = go l.ended (is_skipped l.bytes) refl refl
    where
      found : (a : EventLine) → Told l.bytes a → ((e : Event) → LineSays l.bytes e → a ≡ Given e)
          → l.ended ≡ true → is_skipped l.bytes ≡ false → Means l a
      found Skipped told all ends kept = elim told [ ]
      found Malformed told all ends kept =
          (λ h. false≢true (sym kept ∙ h.1), λ e h. let z : ◌≡◌ {A = ℕ} 0 1 = cc (all e h.1) in omega arith)
      found (Given e) told all ends kept = (ends, told)

      go : (ends skipped : Bool) → l.ended ≡ ends → is_skipped l.bytes ≡ skipped
          → Means l (cond ends (cond skipped Skipped (event_of (columns l.bytes))) Malformed)
      go false b e k = (λ h. false≢true (sym e ∙ h.0), λ x h. false≢true (sym e ∙ h.0))
      go true true e k = (e, k)
      go true false e k = found (event_of (columns l.bytes)) (event_read l.bytes) (event_written l.bytes) e k

  -- and no line means two things
  pub meaning_unique : (a b : EventLine) → Means l a → Means l b → a ≡ b
  meaning_unique Skipped Skipped h k = refl
  meaning_unique Skipped Malformed h k = absurd (k.0 h)
  meaning_unique Skipped (Given e) h k = absurd (skipped_writes_none l.bytes e h.1 k.1)
  meaning_unique Malformed Skipped h k = absurd (h.0 k)
  meaning_unique Malformed Malformed h k = refl
  meaning_unique Malformed (Given e) h k = absurd (h.1 e k)
  meaning_unique (Given e) Skipped h k = absurd (skipped_writes_none l.bytes e k.1 h.1)
  meaning_unique (Given e) Malformed h k = absurd (k.1 e h)
  meaning_unique (Given e) (Given f) h k = sym (event_written l.bytes e h.1) ∙ event_written l.bytes f k.1
