-- What is held is the line so far, laid over zeros: its first bytes and its length tell what it means, for a line that is longer than 13 bytes writes
-- no event.
use Prim.Native.Nat.{ℕ, ◌+◌, ◌≤◌, min}
use native.Mathlib.Omega.{arith}
use mathlib.Core.Bool.{Bool, true, false, cond}
use mathlib.Core.List.{List, [], ◌∷◌, ◌++◌}
use mathlib.Core.Logic.{⊎_elim}
use mathlib.Core.Path.{◌≡◌, refl, sym, ap, ◌∙◌}
use lib.ListN.{length, take, drop, length-append}
use lib.Seq.{take-append_seam}
use borrow.Author.Tests.{le-leb}
use Rattle.model.proofs.Decide.{decided, decides_le}
use Rattle.events.specs.declared.Event.{Event}
use Rattle.events.specs.declared.Event.TheVariants.{Load, Advance, Unload, Pull}
use Rattle.plan_text.specs.Lines.{tab, is_skipped, columns}
use Rattle.plan_text.proofs.Split.{joined_by, split_joined}
use Rattle.moves_text.specs.Buffer.{overlaid, overlaid_at}
use Rattle.moves_text.specs.EventLines.{LineSays, Means, event_in}
use Rattle.moves_text.specs.declared.EventLine.{EventLine}
use Rattle.moves_text.specs.declared.EventLine.TheVariants.{Skipped, Malformed, Given}
use Rattle.moves_text.proofs.Divided.{ended}
use Rattle.moves_text.proofs.LineMeanings.{line_means}
use Rattle.moves_text.proofs.Overlays.{nothing_overlaid, overlaid_length, overlaid_then, overlaid_within, overlaid_whole}
use Rattle.desk_text.specs.HeldLine.{room, no_line, held_with, held_means}
use Rattle.desk_text.specs.declared.HeldLine.{HeldLine}

abbrev blank : List ℕ
blank = no_line.bytes

-- the line so far is held
pub record IsHeld (h : HeldLine) (line : List ℕ) : Type 0 where
  pub laid : h.bytes ≡ overlaid line blank
  pub size : h.count ≡ min (length line) (room + 1)

pub holds_none : IsHeld no_line []
holds_none = record { laid = sym (nothing_overlaid blank); size = refl }

module _ (h : HeldLine) (line : List ℕ) (k : IsHeld h line) where
  within : min h.count (length h.bytes) ≡ min (length line) (length (overlaid line blank))
  within = rw (k.laid, k.size, overlaid_length line blank) (omega arith)

  -- and so it is with more bytes
  pub holds_more : (more : List ℕ) → IsHeld (held_with h more) (line ++ more)
  unfolding held_with
  holds_more more =
      record {
        laid =
            sym (overlaid_within h.count more h.bytes)
            ∙ ap (λ at. overlaid_at at more h.bytes) within
            ∙ ap (overlaid_at (min (length line) (length (overlaid line blank))) more) k.laid
            ∙ overlaid_within (length line) more (overlaid line blank)
            ∙ overlaid_then line more blank;
        size = omega (arith, k.size, length-append line more);
      }

-- a line that writes an event has at most 13 bytes: a letter, and one or two fields of 5
joined_size : (bytes : List ℕ) (ps : List (List ℕ)) → columns bytes ≡ ps → length bytes ≡ length (joined_by tab ps)
joined_size bytes ps e = ap length (sym (split_joined tab bytes)) ∙ ap (λ qs. length (joined_by tab qs)) e

event_short : (bytes : List ℕ) (e : Event) → LineSays bytes e → length bytes ≤ 13
event_short bytes (Load n t) (f, g, whole, says, also) =
    omega (arith, joined_size bytes _ whole, length-append f (tab ∷ g), says.0.0, also.0.0)
event_short bytes (Advance n) (f, whole, says) = omega (arith, joined_size bytes _ whole, says.0.0)
event_short bytes (Unload n) (f, whole, says) = omega (arith, joined_size bytes _ whole, says.0.0)
event_short bytes (Pull n) (f, whole, says) = omega (arith, joined_size bytes _ whole, says.0.0)

-- so a longer one is skipped or malformed
long_means : (line : List ℕ) → room + 1 ≤ length line → (m : EventLine) → Means (ended line) m → cond (is_skipped line) Skipped Malformed ≡ m
long_means line long Skipped h = rw h.1 refl
long_means line long Malformed h = go (is_skipped line) refl
  where
    go : (b : Bool) → is_skipped line ≡ b → cond b Skipped Malformed ≡ Malformed
    go true e = absurd (h.0 (refl, e))
    go false e = refl
long_means line long (Given e) h = absurd (omega (arith, event_short line e h.1))

first_kept : (line : List ℕ) → 1 ≤ length line → is_skipped (overlaid line blank) ≡ is_skipped line
first_kept [] h = absurd (omega arith)
first_kept (b ∷ bs) h = refl

-- what is held means what the line does
pub held_means_lem : (h : HeldLine) (line : List ℕ) → IsHeld h line → held_means h ≡ event_in (ended line)
unfolding held_means
held_means_lem h line k = ⊎_elim short long (decided (decides_le (length line) room))
  where
    short : length line ≤ room → held_means h ≡ event_in (ended line)
    short few =
        let size : h.count ≡ length line = omega (arith, k.size) in
        let bytes : take (length line) (overlaid line blank) ≡ line =
        ap (take (length line)) (overlaid_whole line blank few) ∙ take-append_seam line (drop (length line) blank) in
        rw (size, k.laid, le-leb (length line) room few, bytes) refl

    long : (¬ (length line ≤ room)) → held_means h ≡ event_in (ended line)
    long many =
        let size : h.count ≡ room + 1 = omega (arith, k.size) in
        rw (size, k.laid, first_kept line (omega arith)) (long_means line (omega arith) (event_in (ended line)) (line_means (ended line)))
