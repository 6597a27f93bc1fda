-- The input's two parts: the plan up to the first line that is exactly `E` and its LF, and the event lines after it.
use Rattle.std.specs.Prelude.{ℕ, ◌+◌, Bool, true, false, cond, ◌&&◌, List, [], ◌∷◌, ◌++◌, ◌≢◌, ◌⊎◌, ◌≡◌, eqb, length, take, drop}
use Rattle.model.specs.Numbers.{Each}
use Rattle.plan_text.specs.Lines.{Line, lines_of}
use Rattle.moves_text.specs.Quoted.{quoted}

-- the line between them
abbrev pub events_mark : Line
events_mark = record { bytes = quoted "E"; ended = true }

-- the plan is whole lines, none of them the mark; without a mark all is plan
pub record Marked (input plan events : List ℕ) : Type 0 where
  pub whole : input ≡ plan ++ quoted "E\n" ++ events
  pub lines : lines_of input ≡ lines_of plan ++ events_mark ∷ lines_of events
  pub first : Each (λ (l : Line). l ≢ events_mark) (lines_of plan)

pub record Unmarked (input plan events : List ℕ) : Type 0 where
  pub whole : input ≡ plan
  pub none : events ≡ []
  pub first : Each (λ (l : Line). l ≢ events_mark) (lines_of plan)

abbrev pub Divides : List ℕ → List ℕ → List ℕ → Type 0
Divides input plan events = Marked input plan events ⊎ Unmarked input plan events

-- the same, computed (`input_divided`; and no other parts divide the input, `divides_one`)
abbrev pub is_e : List ℕ → Bool
is_e [] = false
is_e (b ∷ []) = eqb b 69
is_e (b ∷ c ∷ bs) = false

abbrev pub is_mark : Line → Bool
is_mark l = l.ended && is_e l.bytes

-- how many bytes of these lines stand before the first mark
abbrev pub length_before : List Line → ℕ
length_before [] = 0
length_before (l ∷ ls) = cond (is_mark l) 0 (length l.bytes + cond l.ended 1 0 + length_before ls)

unfoldable pub plan_length : List ℕ → ℕ
plan_length input = length_before (lines_of input)

abbrev pub plan_part : List ℕ → List ℕ
plan_part input = take (plan_length input) input

-- after the mark's two bytes
abbrev pub event_part : List ℕ → List ℕ
event_part input = drop (plan_length input + 2) input
