-- An entry written over its own bytes, among those of all entries, is that entry of the list set, and the others stay.
use Prim.Native.Nat.{ℕ, zero, suc, ◌+◌, ◌-◌, ◌*◌, ◌≤◌, ◌<◌}
use native.Mathlib.Nat.{mul-zero, mul-suc, add_comm}
use native.Mathlib.Omega.{arith}
use mathlib.Core.List.{List, ◌∷◌, ◌++◌, append_assoc}
use mathlib.Core.Path.{◌≡◌, refl, sym, ap, ◌∙◌}
use lib.ListN.{length, take, drop, set, get_or, replicate, length-drop, length-append, length-replicate}
use lib.Seq.{length-take-le, take-add, take_at, drop_at, drop-drop}
use Rattle.model.specs.Limits.{max_all_stages}
use Rattle.model.specs.Plan.{empty_plan}
use Rattle.model.specs.declared.Plan.{Plan}
use Rattle.model.specs.declared.Stage.{Stage}
use Rattle.plan_bytes.specs.Over.{entries_in, stage_in, stage_size, stages_size, plan_read, empty_frame}
use Rattle.plan_bytes.proofs.Laid.{part_lent, entry_laid}
use Rattle.plan_bytes.proofs.Over.{over_whole, empty_over}

-- the bytes with others from an offset on, as many as are dropped there
abbrev pub stored : ℕ → ℕ → List ℕ → List ℕ → List ℕ
stored from n new bytes = take from bytes ++ (new ++ drop n (drop from bytes))

pub stored_length : (from n : ℕ) (new bytes : List ℕ) → length new ≡ n → from + n ≤ length bytes → length (stored from n new bytes) ≡ length bytes
stored_length from n new bytes l h =
    omega (
      arith,
      length-append (take from bytes) (new ++ drop n (drop from bytes)),
      length-take-le from bytes (omega arith),
      length-append new (drop n (drop from bytes)),
      length-drop n (drop from bytes),
      length-drop from bytes,
    )

module _ {A : Type 0} (read : List ℕ → A) (size : ℕ) (new : List ℕ) (fits : length new ≡ size) where
  pub entry_stored : (n : ℕ) (bytes : List ℕ) (i : ℕ) → i < n → size * n ≤ length bytes
      → entries_in read size n (stored (size * i) size new bytes) ≡ set (entries_in read size n bytes) i (read new)
  entry_stored zero bytes i h l = absurd (omega arith)
  entry_stored (suc n) bytes zero h l =
      let rest = drop size bytes in
      rw (mul-zero size, take_at new rest size fits, drop_at new rest size fits) refl
  entry_stored (suc n) bytes (suc i) h l =
      let first = take size bytes in
      let rest = drop size bytes in
      let long = length-take-le size bytes (omega (arith, mul-suc size n)) in
      let more : size * suc i ≡ size + size * i = mul-suc size i ∙ add_comm (size * i) size in
      let split : stored (size * suc i) size new bytes ≡ first ++ stored (size * i) size new rest =
      rw (more, take-add size (size * i) bytes, sym (drop-drop (size * i) size bytes)) (append_assoc first (take (size * i) rest) (new ++ drop size (drop (size * i) rest))) in
      rw (split, take_at first (stored (size * i) size new rest) size long, drop_at first (stored (size * i) size new rest) size long)
      (ap (λ xs. read first ∷ xs) (entry_stored n rest i (omega arith) (omega (arith, length-drop size bytes, mul-suc size n))))

-- the stage at an index, as code lends its bytes, and as code has written them
module _ (bytes : List ℕ) (i : ℕ) where
  abbrev from : ℕ
  from = i * 64

  pub stage_bytes : (d : Stage) → i < max_all_stages → get_or (entries_in stage_in stage_size max_all_stages bytes) i d ≡ stage_in (take (from + 64 - from) (drop from bytes))
  stage_bytes d h =
      let e : 64 * i ≡ from = omega arith in
      entry_laid stage_in stage_size max_all_stages bytes i d h ∙ rw (e, part_lent from 64 bytes) refl

  pub stage_stored : (new : List ℕ) → length new ≡ stage_size → i < max_all_stages → length bytes ≡ stages_size
      → entries_in stage_in stage_size max_all_stages (stored from (from + 64 - from) new bytes) ≡ set (entries_in stage_in stage_size max_all_stages bytes) i (stage_in new)
  stage_stored new fits h whole =
      let e : 64 * i ≡ from = omega arith in
      let k : from + 64 - from ≡ 64 = omega arith in
      rw (k, sym e) (entry_stored stage_in stage_size new fits max_all_stages bytes i h (omega (arith, whole)))

-- bytes of 0 are the stages of the empty plan
pub empty_stages : entries_in stage_in stage_size max_all_stages (replicate stages_size 0) ≡ empty_plan.stages
unfolding plan_read
empty_stages =
    let zeros = replicate {A = ℕ} stages_size 0 in
    ap (λ (p : Plan). p.stages) (sym (over_whole empty_frame zeros (length-replicate {A = ℕ} stages_size 0)) ∙ empty_over)
