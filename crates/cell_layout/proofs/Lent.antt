-- The plan in a cell is that of its frame and of the bytes of its stages, lent where they lie; and what is put into their part is the bytes lent.
use Prim.Native.Nat.{ℕ, zero, suc, ◌+◌, ◌*◌, ◌≤◌}
use native.Mathlib.Nat.{mul-zero, mul-suc, add_comm}
use native.Mathlib.Omega.{arith}
use mathlib.Core.List.{List, []}
use mathlib.Core.Logic.{◌≢◌}
use mathlib.Core.Path.{◌≡◌, refl, sym, ap, ◌∙◌}
use lib.ListN.{length, take, drop, length-take, length-drop, take-append-drop}
use lib.Seq.{take-add, take_all}
use borrow.Author.Tests.{eq-eqb, ne_eqb}
use Rattle.model.specs.Limits.{max_all_stages}
use Rattle.plan_bytes.specs.Over.{entries_in, stage_in, stage_size, stage_bytes, stages_size, whole_stages, plan_read, plan_over}
use Rattle.plan_bytes.specs.declared.Frame.{Frame}
use Rattle.plan_bytes.proofs.Over.{over_whole}
use Rattle.moves_text.specs.Buffer.{overlaid_at}
use Rattle.moves_text.proofs.Overlays.{none_laid}
use Rattle.cell_layout.specs.Layout.{bytes_of_each, cell_size, stages_part, offset_of, part_in, with_part, frame_laid, frame_in, plan_laid, plan_in}
use Rattle.cell_layout.proofs.Cells.{is_cell_lem}
use Rattle.cell_layout.proofs.Parts.{part_long, put_into}

pub cell_lent : (bytes : List ℕ) → cell_size ≤ length bytes → plan_in bytes ≡ plan_over (frame_in bytes) (part_in stages_part bytes)
unfolding plan_laid
cell_lent bytes h = rw (is_cell_lem bytes h) (sym (over_whole (frame_laid bytes) (part_in stages_part bytes) (part_long stages_part bytes h)))

-- the same as code has it, which has read the frame
pub lent_in : (bytes : List ℕ) → cell_size ≤ length bytes → {f : Frame} → f ≡ frame_in bytes → plan_over f (part_in stages_part bytes) ≡ plan_in bytes
lent_in bytes h e = ap (λ g. plan_over g (part_in stages_part bytes)) e ∙ sym (cell_lent bytes h)

-- entries that are written as they were read
module _ {A : Type 0} (read : List ℕ → A) (write : A → List ℕ) (size : ℕ) (same : (bs : List ℕ) → length bs ≤ size → write (read bs) ≡ bs) where
  joined_entries : (n : ℕ) (bytes : List ℕ) → bytes_of_each write (entries_in read size n bytes) ≡ take (size * n) bytes
  joined_entries zero bytes = rw mul-zero refl
  joined_entries (suc n) bytes =
      let more : size * suc n ≡ size + size * n = mul-suc size n ∙ add_comm (size * n) size in
      rw (more, take-add size (size * n) bytes, same (take size bytes) (omega (arith, length-take size bytes)), joined_entries n (drop size bytes)) refl

stage_same : (bs : List ℕ) → length bs ≤ stage_size → stage_bytes (stage_in bs) ≡ bs
stage_same bs h = rw (take_all 32 (drop 32 bs) (omega (arith, length-drop 32 bs))) (take-append-drop 32 bs)

-- what is put into the part of the stages: the bytes lent if they are those of all stages, and else nothing
module _ (f : Frame) (lent : List ℕ) where
  joined_lent : bytes_of_each stage_bytes (plan_over f lent).stages ≡ take stages_size (whole_stages lent)
  unfolding plan_over plan_read
  joined_lent = joined_entries stage_in stage_bytes stage_size stage_same max_all_stages (whole_stages lent)

  pub stages_put : {now next old : List ℕ} → length lent ≡ stages_size → next ≡ overlaid_at (offset_of stages_part) lent now → now ≡ old
      → next ≡ with_part stages_part (bytes_of_each stage_bytes (plan_over f lent).stages) old
  stages_put {old = old} whole put same =
      let all : bytes_of_each stage_bytes (plan_over f lent).stages ≡ lent = joined_lent ∙ rw (eq-eqb (length lent) stages_size whole) (take_all stages_size lent (omega arith)) in
      rw all (put_into stages_part lent whole put same)

  pub no_stages_put : length lent ≢ stages_size → (bytes : List ℕ) → bytes ≡ with_part stages_part (bytes_of_each stage_bytes (plan_over f lent).stages) bytes
  no_stages_put other bytes =
      let none : bytes_of_each stage_bytes (plan_over f lent).stages ≡ [] = joined_lent ∙ rw (ne_eqb (length lent) stages_size other) refl in
      rw none (none_laid (offset_of stages_part) bytes).1
