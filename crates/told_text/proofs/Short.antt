-- What a person is told fits a short line, for any numbers that the code has: what each part of it is at most as long as.
use Prim.Native.Nat.{ℕ, ◌≤◌, ◌<◌}
use native.Mathlib.Omega.{arith}
use mathlib.Core.Bool.{Bool, true, false, cond}
use mathlib.Core.List.{List, [], ◌∷◌, ◌++◌}
use mathlib.Core.Path.{◌≡◌, refl}
use lib.Dec.{eqb}
use lib.ListN.{length, length-append}
use Rattle.std.specs.Prelude.{Option, None, Some}
use Rattle.model.specs.Numbers.{Each}
use Rattle.model.proofs.Decide.{Decides, holding, failing, holds, decides_eq, decides_le, decides_each}
use Rattle.moves_text.specs.Quoted.{quoted}
use Rattle.moves_text.specs.Decimals.{decimal}
use Rattle.moves_text.proofs.Decimals.{decimal_short}
use Rattle.told_text.specs.Words.{Worded, worded, words_in, words_of}
use Rattle.told_text.specs.Slips.{slip_words}
use Rattle.told_text.specs.declared.Slip.{Slip}
use Rattle.told_text.specs.declared.Slip.TheVariants.{CarriageReturn, BeyondAscii, Spaces, UnknownLetter, FieldTooMany, LongLine, NoLineEnd}
use Rattle.told_text.specs.PlanMessage.{line_head, check_place, check_message_with}
use Rattle.told_text.specs.EventMessage.{event_head, event_place, told_line}

pub words_short : (n : ℕ) → length (words_of n) ≤ 83
unfolding words_of
words_short n = go worded (holds (decides_each (λ (w : Worded). decides_le (length w.words) 83) worded) refl)
  where
    step : (w : Worded) (ws : List Worded) → length w.words ≤ 83 → length (words_in ws n) ≤ 83 → {b : Bool} → Decides (n ≡ w.number) b
        → length (cond b w.words (words_in ws n)) ≤ 83
    step w ws here later (holding e) = here
    step w ws here later (failing ne) = later

    go : (ws : List Worded) → Each (λ (w : Worded). length w.words ≤ 83) ws → length (words_in ws n) ≤ 83
    go [] h = omega arith
    go (w ∷ ws) h = step w ws h.0 (go ws h.1) (decides_eq n w.number)

pub slip_short : (s : Option Slip) → length (slip_words s) ≤ 40
slip_short None = omega arith
slip_short (Some CarriageReturn) = omega arith
slip_short (Some BeyondAscii) = omega arith
slip_short (Some Spaces) = omega arith
slip_short (Some UnknownLetter) = omega arith
slip_short (Some FieldTooMany) = omega arith
slip_short (Some LongLine) = omega arith
slip_short (Some NoLineEnd) = omega arith

-- numbers of 32 and of 64 bits
small_short : (n : ℕ) → n < 4294967296 → length (decimal n) ≤ 10
small_short n h = decimal_short 10 n (omega arith) (omega arith)

pub line_head_short : (line : ℕ) → line < 4294967296 → length (line_head line) ≤ 17
line_head_short line h = simp length-append (omega (arith, small_short line h))

pub event_head_short : (ordinal : ℕ) → ordinal < 18446744073709551616 → length (event_head ordinal) ≤ 28
event_head_short ordinal h = simp length-append (omega (arith, decimal_short 20 ordinal (omega arith) (omega arith)))

pub check_place_short : (number first second : ℕ) → first < 4294967296 → second < 4294967296 → length (check_place number first second) ≤ 46
check_place_short number first second f s = go (eqb number 22) (eqb number 24) (eqb number 25)
  where
    go : (a b c : Bool)
        → length (cond a (quoted ": stage " ++ decimal second ++ quoted " of type " ++ decimal first ++ quoted " does not")
        (cond b (quoted ": row " ++ decimal first ++ quoted " does not") (cond c (quoted ": that of row " ++ decimal first ++ quoted " is not") []))) ≤ 46
    go true b c = simp length-append (omega (arith, small_short first f, small_short second s))
    go false true c = simp length-append (omega (arith, small_short first f))
    go false false true = simp length-append (omega (arith, small_short first f))
    go false false false = omega arith

pub event_place_short : (number place excess : ℕ) → place < 4294967296 → excess < 4294967296 → length (event_place number place excess) ≤ 31
event_place_short number place excess p e = go (eqb number 18) (eqb number 19)
  where
    go : (a b : Bool)
        → length (cond a (quoted ": resource " ++ decimal place) (cond b (quoted ": row " ++ decimal place ++ quoted ", by " ++ decimal excess) [])) ≤ 31
    go true b = simp length-append (omega (arith, small_short place p))
    go false true = simp length-append (omega (arith, small_short place p, small_short excess e))
    go false false = omega arith

-- so a line fits a buffer of so many bytes
pub told_line_short : (ordinal number : ℕ) (more : List ℕ) → ordinal < 18446744073709551616 → length more ≤ 40 → length (told_line ordinal number more) ≤ 192
told_line_short ordinal number more o m = simp length-append (omega (arith, decimal_short 20 ordinal (omega arith) (omega arith), words_short number))

pub check_message_short : (number first second : ℕ) → first < 4294967296 → second < 4294967296 → length (check_message_with number first second) ≤ 192
check_message_short number first second f s =
    let place = check_place number first second in
    let said = quoted "the cell may deadlock although moves are admitted: " ++ words_of number in
    omega (
      arith,
      length-append (said ++ place) (quoted "\n"),
      length-append said place,
      length-append (quoted "the cell may deadlock although moves are admitted: ") (words_of number),
      words_short number,
      check_place_short number first second f s,
    )
