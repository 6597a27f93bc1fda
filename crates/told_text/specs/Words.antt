-- What each published number means, in words: a line for each number, and no number twice (`worded_once`). No answer of any entrance is
-- without (`text_worded` and the laws beside it).
use Rattle.std.specs.Prelude.{ℕ, cond, List, [], ◌∷◌, ◌++◌, ◌≢◌, ◌≡◌, eqb}
use Rattle.model.specs.Numbers.{Split}
use Rattle.moves_text.specs.Quoted.{quoted}

-- a number and its words
pub record Worded : Type 0 where
  pub number : ℕ
  pub words : List ℕ

abbrev means : ℕ → List ℕ → Worded
means n w = record { number = n; words = w }

-- of a plan text, and of a plan that is written
abbrev pub text_words : List Worded
text_words =
    means 0 (quoted "yes")
    ∷ means 1 (quoted "the input has more than 65536 bytes")
    ∷ means 2 (quoted "it does not end with LF, or holds a byte other than a tab and 32 to 126")
    ∷ means 3 (quoted "its letter is not in the list, not C in the first record, or of an earlier section")
    ∷ means 4 (quoted "it has not the right count of fields, each 1 to 5 digits")
    ∷ means 5 (quoted "a number is out of range, or there are more than 128 stages")
    ∷ means 6 (quoted "a record with this key was there before")
    ∷ means 7 (quoted "a C, R, T, S or B is missing, or K is given for some resources only")
    ∷ means 9 (quoted "fewer bytes are lent than are needed")
    ∷ []

-- of an event, of the upstream check, of a drain, and of a line
abbrev pub event_words : List Worded
event_words =
    means 11 (quoted "the plan is not sound: its text was refused")
    ∷ means 12 (quoted "the table does not agree with the plan")
    ∷ means 13 (quoted "a job number is 1 to 65535")
    ∷ means 14 (quoted "the job to load is active already, or the job to move is not active")
    ∷ means 15 (quoted "the type is not in the plan")
    ∷ means 16 (quoted "64 jobs are active already")
    ∷ means 17 (quoted "an advance needs a next stage, and an unload the last one")
    ∷ means 18 (quoted "a capacity would be exceeded")
    ∷ means 19 (quoted "a row would be broken")
    ∷ means 21 (quoted "every resource must have a rank")
    ∷ means 22 (quoted "every stage must demand exactly one unit of one resource")
    ∷ means 23 (quoted "there must be as many rows as resources")
    ∷ means 24 (quoted "a row must weigh 1 at every stage upstream of its resource, and 0 elsewhere")
    ∷ means 25 (quoted "the bound of a row must be 1 to the capacity of its resource")
    ∷ means 31 (quoted "the budget of moves is spent")
    ∷ means 32 (quoted "no move is admitted")
    ∷ means 41 (quoted "an event line is L job type, A job, U job or X job, with tabs, 1 to 5 digits and LF")
    ∷ []

abbrev pub worded : List Worded
worded = text_words ++ event_words

-- a number is worded: it stands in the list, and something is said of it
pub record IsWorded (n : ℕ) : Type 0 where
  pub here : Split worded
  pub number : here.item.number ≡ n
  pub said : here.item.words ≢ []

-- the words of a number; none where it is not in the list
abbrev pub words_in : List Worded → ℕ → List ℕ
words_in [] n = []
words_in (w ∷ ws) n = cond (eqb n w.number) w.words (words_in ws n)

unfoldable pub words_of : ℕ → List ℕ
words_of n = words_in worded n
