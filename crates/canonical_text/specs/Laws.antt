-- What the canonical text is good for, as worded: of reading, writing and what is printed, with no program in sight.
use Rattle.std.specs.Prelude.{ℕ, ◌≤◌, List, ◌↔◌, ◌≡◌, length}
use Rattle.model.specs.Soundness.{Sound}
use Rattle.model.specs.declared.Plan.{Plan}
use Rattle.plan_text.specs.TextQuestions.{max_text, text_number}
use Rattle.plan_text.specs.Reading.{accepted, reading}
use Rattle.plan_text.specs.Meaning.{Sized}
use Rattle.canonical_text.specs.CanonicalText.{plan_records, canonical_text}
use Rattle.canonical_text.specs.Order.{Rising}
use Rattle.canonical_text.specs.CanonicalOutput.{canonical_output}

-- a plan that a program holds and that is sound
abbrev pub SoundValue : Plan → Type 0
SoundValue p = Sized p × Sound p

abbrev pub IsAccepted : List ℕ → Type 0
IsAccepted text = text_number (reading text).answer ≡ 0

-- what a text comes to: the canonical text of its plan
abbrev pub canonical_of : List ℕ → List ℕ
canonical_of text = canonical_text (reading text).plan

pub record CanonicalLaws : Type 0 where
  -- the records stand in order of rising keys
  pub rises : (p : Plan) → Rising (plan_records p)
  -- the text of a plan, unless it is too long, is answered 0 and gives the same plan
  pub read_back : (p : Plan) → SoundValue p → length (canonical_text p) ≤ max_text → reading (canonical_text p) ≡ accepted p
  -- two plans with the same text are equal, however long it is
  pub one_plan : (p q : Plan) → SoundValue p → SoundValue q → canonical_text p ≡ canonical_text q → p ≡ q
  -- a written text comes to itself
  pub unchanged : (p : Plan) → SoundValue p → length (canonical_text p) ≤ max_text → canonical_of (canonical_text p) ≡ canonical_text p
  -- an accepted text comes to one that is no longer, is accepted with the same plan, and comes to itself
  pub never_longer : (text : List ℕ) → IsAccepted text → length (canonical_of text) ≤ length text
  pub same_plan : (text : List ℕ) → IsAccepted text → reading (canonical_of text) ≡ accepted (reading text).plan
  pub settled : (text : List ℕ) → IsAccepted text → canonical_of (canonical_of text) ≡ canonical_of text
  -- two accepted texts have the same plan exactly when they are printed alike
  pub alike : (text other : List ℕ) → IsAccepted text → IsAccepted other
      → ((reading text).plan ≡ (reading other).plan) ↔ (canonical_output text ≡ canonical_output other)
