-- A weight of a stage is one byte of those that are lent; beyond the last row and the last stage there is none. An entry of any part is its byte.
use Prim.Native.Nat.{ℕ, zero, suc, ◌+◌, ◌-◌, ◌*◌, ◌≤◌, ◌<◌}
use native.Mathlib.Numerals.{sub-one}
use native.Mathlib.Omega.{arith}
use mathlib.Core.List.{List}
use mathlib.Core.Path.{◌≡◌, ap, ◌∙◌}
use lib.ListN.{get_or, drop, length-take, get_or-eq_default}
use lib.Seq.{get_or-take, get_or-drop}
use Rattle.model.specs.Limits.{max_rows, max_all_stages}
use Rattle.model.specs.Numbers.{InRange, at}
use Rattle.model.specs.declared.Stage.{Stage}
use Rattle.plan_bytes.specs.Over.{entries_in, bytes_from, stage_in, stage_size}
use Rattle.plan_bytes.proofs.Laid.{entries_length, stage_laid}

-- an entry of a part, counted from 0 and from 1, and beyond the last
pub part_entry : (from n : ℕ) (bytes : List ℕ) (i : ℕ) → i < n → get_or (bytes_from from n bytes) i 0 ≡ get_or bytes (from + i) 0
part_entry from n bytes i h = get_or-take n (drop from bytes) i 0 h ∙ get_or-drop from bytes i 0

pub part_at : (from n : ℕ) (bytes : List ℕ) (r : ℕ) → InRange r n → at (bytes_from from n bytes) r ≡ get_or bytes (from + (r - 1)) 0
part_at from n bytes zero h = absurd (omega arith)
part_at from n bytes (suc r) h = rw sub-one (part_entry from n bytes r (omega arith))

pub part_beyond : (from n : ℕ) (bytes : List ℕ) (r : ℕ) → n < r → at (bytes_from from n bytes) r ≡ 0
part_beyond from n bytes zero h = absurd (omega arith)
part_beyond from n bytes (suc r) h = get_or-eq_default (bytes_from from n bytes) 0 {n = r} (omega (arith, length-take n (drop from bytes)))

module _ (bytes : List ℕ) (i : ℕ) (d : Stage) where
  abbrev here : Stage
  here = get_or (entries_in stage_in stage_size max_all_stages bytes) i d

  pub weight_byte : (w : ℕ) → i < max_all_stages → InRange w max_rows → at here.weight w ≡ get_or bytes (i * 64 + 32 + (w - 1)) 0
  weight_byte w h within = ap (λ (s : Stage). at s.weight w) (stage_laid bytes i d h) ∙ part_at (i * 64 + 32) 32 bytes w within

  pub weight_beyond : (w : ℕ) → i < max_all_stages → max_rows < w → at here.weight w ≡ 0
  weight_beyond w h beyond = ap (λ (s : Stage). at s.weight w) (stage_laid bytes i d h) ∙ part_beyond (i * 64 + 32) 32 bytes w beyond

  pub stage_beyond : max_all_stages ≤ i → here ≡ d
  stage_beyond h = get_or-eq_default (entries_in stage_in stage_size max_all_stages bytes) d {n = i} (omega (arith, entries_length stage_in stage_size max_all_stages bytes))
