-- The writer (S-3 of document 02): what it answers, and the buffer that it was lent afterwards.
use Rattle.std.specs.Prelude.{ℕ, ◌≤◌, Bool, cond, ◌&&◌, List, [], ◌∷◌, ◌++◌, ◌≡◌, leb, eqb, length, drop}
use Rattle.model.specs.Questions.{Condition, asks, Question, ask, answer_of}
use Rattle.model.specs.Soundness.{Sound, sound}
use Rattle.model.specs.declared.Plan.{Plan}
use Rattle.plan_text.specs.TextQuestions.{max_text}
use Rattle.canonical_text.specs.CanonicalText.{canonical_text}
use Rattle.canonical_text.specs.declared.WriteAnswer.{WriteAnswer}
use Rattle.canonical_text.specs.declared.WriteAnswer.TheVariants.{Written, UnsoundPlan, NoRoom}
use Rattle.canonical_text.specs.declared.Writing.{Writing}

-- the papers' number of each answer
abbrev pub write_number : WriteAnswer → ℕ
write_number Written = 0
write_number NoRoom = 9
write_number UnsoundPlan = 11

-- what the writer hands back, and the buffer afterwards
pub record WriteOutcome : Type 0 where
  pub writing : Writing
  pub buffer : List ℕ

-- the outcome has this number, this length and this buffer
pub record WriteSays (n size : ℕ) (after : List ℕ) (o : WriteOutcome) : Type 0 where
  pub number : write_number o.writing.answer ≡ n
  pub length : o.writing.length ≡ size
  pub buffer : o.buffer ≡ after

-- a refusal has length 0 and leaves the buffer unchanged
abbrev pub RefusesPlan : List ℕ → ℕ → WriteOutcome → Type 0
RefusesPlan buffer n = WriteSays n 0 buffer

-- otherwise the buffer begins with the text and is unchanged after it
abbrev pub WritesPlan : Plan → List ℕ → WriteOutcome → Type 0
WritesPlan p buffer = WriteSays 0 (length (canonical_text p)) (canonical_text p ++ drop (length (canonical_text p)) buffer)

-- 11 first, then 9: the whole text is at most as long as the buffer, and at most 65,536 bytes
abbrev pub write_conditions : Plan → List ℕ → List (Condition WriteOutcome)
write_conditions p buffer =
    asks (Sound p) (RefusesPlan buffer 11)
    ∷ asks ((length (canonical_text p) ≤ length buffer) × (length (canonical_text p) ≤ max_text)) (RefusesPlan buffer 9)
    ∷ []

-- the same, computed (`writing_first_failure`)
abbrev pub has_room : ℕ → ℕ → Bool
has_room size room = leb size room && leb size max_text

abbrev pub write_questions : Plan → List ℕ → List (Question WriteAnswer)
write_questions p buffer = ask (sound p) UnsoundPlan ∷ ask (has_room (length (canonical_text p)) (length buffer)) NoRoom ∷ []

abbrev pub answer_of_writing : Plan → List ℕ → WriteAnswer
answer_of_writing p buffer = answer_of Written (write_questions p buffer)

abbrev pub is_written : WriteAnswer → Bool
is_written a = eqb (write_number a) 0

unfoldable pub writing : Plan → List ℕ → Writing
writing p buffer = let a = answer_of_writing p buffer in record { answer = a; length = cond (is_written a) (length (canonical_text p)) 0 }

unfoldable pub buffer_after : Plan → List ℕ → List ℕ
buffer_after p buffer = cond (is_written (answer_of_writing p buffer)) (canonical_text p ++ drop (length (canonical_text p)) buffer) buffer

abbrev pub write_outcome : Plan → List ℕ → WriteOutcome
write_outcome p buffer = record { writing = writing p buffer; buffer = buffer_after p buffer }
