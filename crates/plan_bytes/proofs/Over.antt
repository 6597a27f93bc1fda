-- A plan that is lent: with all the bytes it is what they say, and without them it is not sound.
use Prim.Native.Nat.{ℕ, zero, suc, ◌+◌, ◌*◌, ◌≤◌, ◌<◌}
use native.Mathlib.Nat.{mul-suc, add_comm}
use native.Mathlib.Omega.{arith}
use mathlib.Core.Bool.{Bool, true, false, ◌&&◌, false≢true}
use mathlib.Core.List.{List, [], ◌∷◌}
use mathlib.Core.Logic.{◌≢◌, ⊎_elim}
use mathlib.Core.Path.{◌≡◌, refl, sym, ap, ◌∙◌}
use lib.ListN.{length, get_or, get_or-eq_default, replicate, length-replicate, replicate-append-replicate}
use borrow.Author.Tests.{eq-eqb, ne_eqb, lt-ltb, le-ltb}
use Rattle.model.specs.Limits.{max_stages, max_all_stages}
use Rattle.model.specs.Numbers.{in_range, at, entry, sum_to, all_to}
use Rattle.model.specs.Plan.{no_stage, empty_plan, all_stages, stage_of}
use Rattle.model.specs.Soundness.{zero_beyond, sound_counts, sound_capacities, sound_ranks, sound_lengths, sound_bounds, sound_stage, sound}
use Rattle.model.proofs.Decide.{Decides, holding, failing, holds, decided, ◌and◌, decides_le, decides_eq}
use Rattle.model.proofs.Flat.{stage_at_lem, stages_flat}
use Rattle.model.specs.declared.Plan.{Plan}
use Rattle.model.specs.declared.Stage.{Stage}
use Rattle.plan_bytes.specs.Over.{bytes_from, entries_in, stage_in, stage_size, stages_size, whole_stages, plan_read, plan_over, stage_at, empty_frame}
use Rattle.plan_bytes.specs.declared.Frame.{Frame}
use Rattle.plan_bytes.proofs.Nothing.{nothing_unsound}
use Rattle.plan_bytes.proofs.Laid.{entries_length, stage_laid, stage_lent, stage_lent_lem, empty_beyond}

module _ (f : Frame) (bytes : List ℕ) where
  pub over_whole : length bytes ≡ stages_size → plan_over f bytes ≡ plan_read f bytes
  unfolding plan_over
  over_whole h = rw (eq-eqb (length bytes) stages_size h) refl

  pub over_none : length bytes ≢ stages_size → plan_over f bytes ≡ plan_read f []
  unfolding plan_over
  over_none h = rw (ne_eqb (length bytes) stages_size h) refl

-- stage number i is sound
abbrev pub lent_stage : Frame → List ℕ → ℕ → Bool
lent_stage f bytes i = sound_stage f.resources f.rows f.capacity (entry (entries_in stage_in stage_size max_all_stages bytes) i no_stage)

-- the test as code asks it
pub lent_sound : (f : Frame) (bytes : List ℕ) (i : ℕ) {resources rows : ℕ} → i < max_all_stages → resources ≡ f.resources → rows ≡ f.rows
    → lent_stage f bytes (suc i) ≡ sound_stage resources rows f.capacity (stage_lent bytes i)
lent_sound f bytes i h er ew =
    ap (sound_stage f.resources f.rows f.capacity) (stage_lent_lem bytes i no_stage h) ∙ rw (er, ew) refl

-- of a plan read from bytes: how many stages it has room for
pub stages_there : (f : Frame) (bytes : List ℕ) → length (plan_read f bytes).stages ≡ max_all_stages
unfolding plan_read
stages_there f bytes = entries_length stage_in stage_size max_all_stages bytes

-- and the stage at an index, as code lends it
pub stage_read : (f : Frame) (bytes : List ℕ) (i : ℕ) (d : Stage) → i < max_all_stages → get_or (plan_read f bytes).stages i d ≡ stage_lent bytes i
unfolding plan_read
stage_read f bytes i d h = stage_lent_lem bytes i d h

said : (b : Bool) → Decides (b ≡ true) b
said true = holding refl
said false = failing (λ e. absurd (false≢true e))

-- so code that has found a plan sound knows that it has all the bytes, and that the plan is what they say
module _ (f : Frame) (bytes : List ℕ) (h : sound (plan_over f bytes) ≡ true) where
  pub sound_whole : length bytes ≡ stages_size
  sound_whole =
      ⊎_elim (λ e. e) (λ (no : length bytes ≢ stages_size). absurd (false≢true (sym (ap sound (over_none f bytes no) ∙ nothing_unsound f) ∙ h)))
      (decided (decides_eq (length bytes) stages_size))

  pub sound_read : plan_over f bytes ≡ plan_read f bytes
  sound_read = over_whole f bytes sound_whole

-- a plan that is lent has room for all stages, and each is lent where it lies
pub over_there : (f : Frame) (bytes : List ℕ) → length (plan_over f bytes).stages ≡ max_all_stages
unfolding plan_over
over_there f bytes = stages_there f (whole_stages bytes)

pub over_read : (f : Frame) (bytes : List ℕ) (i : ℕ) (d : Stage) → length bytes ≡ stages_size → i < max_all_stages
    → get_or (plan_over f bytes).stages i d ≡ stage_lent bytes i
over_read f bytes i d whole h = ap (λ (p : Plan). get_or p.stages i d) (over_whole f bytes whole) ∙ stage_read f bytes i d h

-- the stage at an index as code copies it, whatever the index and the bytes
pub at_other : (bytes : List ℕ) (i : ℕ) → length bytes ≢ stages_size → stage_at bytes i ≡ no_stage
unfolding stage_at
at_other bytes i other = rw (ne_eqb (length bytes) stages_size other) refl

module _ (bytes : List ℕ) (i : ℕ) (whole : length bytes ≡ stages_size) where
  pub at_beyond : max_all_stages ≤ i → stage_at bytes i ≡ no_stage
  unfolding stage_at
  at_beyond h = rw (eq-eqb (length bytes) stages_size whole, le-ltb i max_all_stages h) refl

  pub at_within : i < max_all_stages → stage_at bytes i ≡ record { demand = bytes_from (i * 64) 32 bytes; weight = bytes_from (i * 64 + 32) 32 bytes }
  unfolding stage_at
  at_within h = rw (eq-eqb (length bytes) stages_size whole, lt-ltb i max_all_stages h) refl

  -- it is the plan's
  pub at_over : (f : Frame) → get_or (plan_over f bytes).stages i no_stage ≡ stage_at bytes i
  unfolding plan_read
  at_over f =
      ap (λ (p : Plan). get_or p.stages i no_stage) (over_whole f bytes whole)
      ∙ ⊎_elim
      (λ (h : i < max_all_stages). stage_laid bytes i no_stage h ∙ sym (at_within h))
      (λ (h : ¬ (i < max_all_stages)).
      get_or-eq_default (entries_in stage_in stage_size max_all_stages bytes) no_stage {n = i} (omega (arith, entries_length stage_in stage_size max_all_stages bytes)) ∙ sym (at_beyond (omega arith)))
      (decided (decides_le (suc i) max_all_stages))

-- the stages that a frame says there are
abbrev pub stages_of : Frame → ℕ
stages_of f = sum_to f.types (at f.lengths)

-- the tests before those of the stages
abbrev pub frame_sound : Frame → Bool
frame_sound f =
    sound_counts f.resources f.types f.rows
    && sound_capacities f.resources f.capacity
    && sound_ranks f.resources f.rank
    && sound_lengths f.types f.lengths
    && sound_bounds f.rows f.bound

pub stages_within : (f : Frame) → frame_sound f ≡ true → stages_of f ≤ max_all_stages
unfolding sound_lengths
stages_within f h =
    let lengths = said (all_to f.types (λ t. in_range (at f.lengths t) max_stages)) and decides_le (stages_of f) max_all_stages and said (zero_beyond f.types f.lengths) in
    (holds
    (said (sound_counts f.resources f.types f.rows)
    and said (sound_capacities f.resources f.capacity)
    and said (sound_ranks f.resources f.rank)
    and lengths
    and said (sound_bounds f.rows f.bound))
    h).0.1.0.1

-- the bytes of all stages, and a frame
module _ (f : Frame) (bytes : List ℕ) (whole : length bytes ≡ stages_size) where
  pub frame_unsound : frame_sound f ≡ false → sound (plan_over f bytes) ≡ false
  unfolding plan_read sound
  frame_unsound h = ap sound (over_whole f bytes whole) ∙ rw h refl

  -- once those tests pass, soundness is a test at each stage, and zeros beyond
  pub sound_lent : frame_sound f ≡ true → sound (plan_over f bytes) ≡ (all_to (stages_of f) (lent_stage f bytes) && zero_beyond (stages_of f * 64) bytes)
  unfolding plan_read sound all_stages
  sound_lent h =
      let p = plan_read f bytes in
      let test = sound_stage f.resources f.rows f.capacity in
      let stages = stages_flat p (λ t k. test (stage_of p t k)) (lent_stage f bytes) (λ t k s. ap test (stage_at_lem p t k s)) in
      ap sound (over_whole f bytes whole) ∙ rw (h, stages, empty_beyond bytes (stages_of f) (stages_within f h) whole) refl

-- bytes of 0 are stages without demands and weights
zeros_laid : (n : ℕ) → entries_in stage_in stage_size n (replicate (stage_size * n) 0) ≡ replicate n no_stage
zeros_laid zero = refl
zeros_laid (suc n) =
    let more : stage_size * suc n ≡ stage_size + stage_size * n = mul-suc stage_size n ∙ add_comm (stage_size * n) stage_size in
    rw (more, sym (replicate-append-replicate {A = ℕ} stage_size (stage_size * n) 0)) (ap (λ ss. no_stage ∷ ss) (zeros_laid n))

pub empty_over : plan_over empty_frame (replicate stages_size 0) ≡ empty_plan
unfolding plan_read empty_frame empty_plan
empty_over = over_whole empty_frame (replicate stages_size 0) (length-replicate {A = ℕ} stages_size 0) ∙ rw (zeros_laid max_all_stages) refl
