-- A read answered line after line: of what it puts, what the lines that are left put at the desk at hand is still to come.
use Prim.Native.Nat.{ℕ, ◌+◌, ◌*◌, ◌≤◌, ◌<◌}
use native.Mathlib.Omega.{arith}
use mathlib.Core.Bool.{Bool, true, false, cond}
use mathlib.Core.List.{List, [], ◌∷◌, ◌++◌}
use mathlib.Core.Path.{◌≡◌, refl, sym, ap, ◌∙◌}
use lib.Dec.{ltb}
use lib.ListN.{length, drop, length-append}
use borrow.Author.Tests.{ltb-true}
use Rattle.byte_slices.specs.Bytes.{slice, index_of}
use Rattle.model.specs.declared.Plan.{Plan}
use Rattle.plan_text.specs.Lines.{line_end, lines_of}
use Rattle.plan_text.specs.LineReading.{span_from, line_from}
use Rattle.plan_text.proofs.LineByLine.{end_within, no_line}
use Rattle.plan_text.proofs.LineReading.{span_there, line_read, next_further}
use Rattle.desk_text.specs.Desk.{desk_after, out_of, told_of, desk_after_lines, out_of_lines, told_of_lines, desk_after_read, out_of_read, told_of_read}
use Rattle.desk_text.specs.declared.Desk.{Desk}

module _ (p : Plan) (start : Desk) (read : List ℕ) where
  -- what the lines from an offset of the read on put
  abbrev pub out_left : Desk → ℕ → List ℕ
  out_left d at = out_of_lines p d (lines_of (drop at read))

  abbrev pub told_left : Desk → ℕ → List ℕ
  told_left d at = told_of_lines p d (lines_of (drop at read))

  -- at the head of each turn: the read is answered up to `at`, with no more than so many bytes
  pub record Going (d : Desk) (at : ℕ) : Type 0 where
    pub after : desk_after_read p start read ≡ desk_after_lines p d (lines_of (drop at read))
    pub out_short : length (out_of_read p start read) ≤ 84 * at + length (out_left d at)
    pub told_short : length (told_of_read p start read) ≤ 192 * at + length (told_left d at)
    pub within : at ≤ length read

  pub going_start : Going start 0
  unfolding desk_after_read out_of_read told_of_read
  going_start = record { after = refl; out_short = omega arith; told_short = omega arith; within = omega arith }

  -- the next line is answered, and those behind it are left
  module _ (d : Desk) (at : ℕ) (there : at < length read) where
    left : lines_of (drop at read) ≡ line_from read at ∷ lines_of (drop (span_from read at).next read)
    left = line_read read at _ refl there

    next_within : (span_from read at).next ≤ length read
    next_within =
        let end = at + index_of line_end (slice at (length read) read) in
        rw (span_there read at end refl there) (below end (end_within read at end refl there).1 (ltb end (length read)) refl)
      where
        below : (end : ℕ) → end ≤ length read → (b : Bool) → ltb end (length read) ≡ b → cond b (end + 1) end ≤ length read
        below end h true e = omega (arith, ltb-true)
        below end h false e = h

    pub out_next : out_left d at ≡ out_of p d (line_from read at) ++ out_left (desk_after p d (line_from read at)) (span_from read at).next
    out_next = ap (out_of_lines p d) left

    pub told_next : told_left d at ≡ told_of p d (line_from read at) ++ told_left (desk_after p d (line_from read at)) (span_from read at).next
    told_next = ap (told_of_lines p d) left

    pub goes_on : Going d at → length (out_of p d (line_from read at)) ≤ 84 → length (told_of p d (line_from read at)) ≤ 192
        → Going (desk_after p d (line_from read at)) (span_from read at).next
    goes_on g few short =
        let next = (span_from read at).next in
        let on : at < next = next_further read at _ refl there in
        let after = desk_after p d (line_from read at) in
        let out = length-append (out_of p d (line_from read at)) (out_left after next) in
        let told = length-append (told_of p d (line_from read at)) (told_left after next) in
        record {
          after = g.after ∙ ap (desk_after_lines p d) left;
          out_short = omega (arith, g.out_short, ap length out_next, out, few);
          told_short = omega (arith, g.told_short, ap length told_next, told, short);
          within = next_within;
        }

  -- at the end of the read nothing is left
  pub all_answered : (d : Desk) (at : ℕ) → Going d at → length read ≤ at → d ≡ desk_after_read p start read
  all_answered d at g over = sym (g.after ∙ ap (desk_after_lines p d) (no_line read at over))

  pub nothing_left : (d : Desk) (at : ℕ) → length read ≤ at → (out_left d at ≡ []) × (told_left d at ≡ [])
  nothing_left d at over = (ap (out_of_lines p d) (no_line read at over), ap (told_of_lines p d) (no_line read at over))
