-- A part of the caller's own text: its bytes, and that it lies where they stand in that text.
use Rattle.std.specs.Prelude.{ℕ, ◌+◌, ◌-◌, min, List, ◌≡◌, length, take, drop}
use Rattle.std.specs.Borrow.{Bor}
use Rattle.plan_text.specs.declared.Reading.{Reading}

-- where a part begins, counted from the start of the text, if it goes from one offset up to another; both are cut to the text
abbrev pub part_start : List ℕ → ℕ → ℕ → ℕ
part_start text from to = min from (min to (length text))

-- the bytes of the text from one offset up to another, at their own address
pub record IsPart (text : Bor (List ℕ)) (from to : ℕ) (part : Bor (List ℕ)) : Type 0 where
  pub bytes : part.now ≡ take (to - from) (drop from text.now)
  pub address : part.ref_ptr ≡ (text.ref_ptr.0, text.ref_ptr.1 + part_start text.now from to)

-- the part that a reading shows (`shown_in`), in the caller's own text
abbrev pub IsShown : Bor (List ℕ) → Reading → Bor (List ℕ) → Type 0
IsShown text a = IsPart text a.from a.to
