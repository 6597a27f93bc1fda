-- The writer's answer is the first failure as worded, and what its two questions come to: refused by 11, refused by 9, or written.
use Prim.Native.Nat.{ℕ, ◌≤◌, ◌<◌}
use native.Mathlib.Omega.{arith}
use mathlib.Core.Bool.{Bool, true, false, cond}
use mathlib.Core.List.{List, ◌++◌}
use mathlib.Core.Logic.{inl, inr}
use mathlib.Core.Path.{◌≡◌, refl}
use lib.ListN.{length, drop}
use borrow.Author.Tests.{le-leb, lt-leb}
use Rattle.model.specs.Questions.{FirstFailure}
use Rattle.model.specs.Soundness.{Sound, sound}
use Rattle.model.specs.declared.Plan.{Plan}
use Rattle.model.proofs.Decide.{Decides, holding, failing, decides_le, ◌and◌}
use Rattle.model.proofs.Soundness.{decides_sound}
use Rattle.plan_text.specs.TextQuestions.{max_text}
use Rattle.canonical_text.specs.CanonicalText.{canonical_text}
use Rattle.canonical_text.specs.Writing.{WriteOutcome, WritesPlan, write_conditions, has_room, is_written, writing, buffer_after, write_outcome}
use Rattle.canonical_text.specs.declared.WriteAnswer.{WriteAnswer}
use Rattle.canonical_text.specs.declared.WriteAnswer.TheVariants.{Written, UnsoundPlan, NoRoom}

module _ (p : Plan) (buffer : List ℕ) where
  abbrev size : ℕ
  size = length (canonical_text p)

  -- the outcome by what its two tests say
  abbrev answer_by : Bool → Bool → WriteAnswer
  answer_by a b = cond a (cond b Written NoRoom) UnsoundPlan

  abbrev outcome_by : Bool → Bool → WriteOutcome
  outcome_by a b =
      record {
        writing = record { answer = answer_by a b; length = cond (is_written (answer_by a b)) size 0 };
        buffer = cond (is_written (answer_by a b)) (canonical_text p ++ drop size buffer) buffer;
      }

  pub writing_first_failure : FirstFailure (WritesPlan p buffer) (write_conditions p buffer) (write_outcome p buffer)
  unfolding writing buffer_after
  writing_first_failure = go (decides_sound p) (decides_le size (length buffer) and decides_le size max_text)
    where
      go : {a b : Bool} → Decides (Sound p) a → Decides ((size ≤ length buffer) × (size ≤ max_text)) b
          → FirstFailure (WritesPlan p buffer) (write_conditions p buffer) (outcome_by a b)
      go (failing unsound) room = inl (unsound, record { number = refl; length = refl; buffer = refl })
      go (holding s) (failing long) = inr (s, inl (long, record { number = refl; length = refl; buffer = refl }))
      go (holding s) (holding fits) = inr (s, inr (fits, record { number = refl; length = refl; buffer = refl }))

  -- the same for code, by the tests
  pub unsound_refused : sound p ≡ false → (record { answer = UnsoundPlan; length = 0 } ≡ writing p buffer) × (buffer ≡ buffer_after p buffer)
  unfolding writing buffer_after
  unsound_refused e = (rw e refl, rw e refl)

  pub long_refused : sound p ≡ true → has_room size (length buffer) ≡ false → (record { answer = NoRoom; length = 0 } ≡ writing p buffer) × (buffer ≡ buffer_after p buffer)
  unfolding writing buffer_after
  long_refused e f = (rw (e, f) refl, rw (e, f) refl)

  pub all_written : sound p ≡ true → has_room size (length buffer) ≡ true
      → (record { answer = Written; length = size } ≡ writing p buffer) × (canonical_text p ++ drop size buffer ≡ buffer_after p buffer)
  unfolding writing buffer_after
  all_written e f = (rw (e, f) refl, rw (e, f) refl)

  -- what is written has at most 65,536 bytes
  pub writing_short : (writing p buffer).length ≤ max_text
  unfolding writing
  writing_short = go (sound p) (decides_le size (length buffer) and decides_le size max_text)
    where
      go : (a : Bool) {b : Bool} → Decides ((size ≤ length buffer) × (size ≤ max_text)) b → (outcome_by a b).writing.length ≤ max_text
      go false room = omega arith
      go true (failing long) = omega arith
      go true (holding fits) = fits.1

-- the test of the room, by what is compared
pub room_short : (size room : ℕ) → room < size → has_room size room ≡ false
room_short size room h = rw (lt-leb size room h) refl

pub room_long : (size room : ℕ) → size ≤ room → max_text < size → has_room size room ≡ false
room_long size room h k = rw (le-leb size room h, lt-leb size max_text k) refl

pub has_room_lem : (size room : ℕ) → size ≤ room → size ≤ max_text → has_room size room ≡ true
has_room_lem size room h k = rw (le-leb size room h, le-leb size max_text k) refl
