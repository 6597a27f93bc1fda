-- The input's two parts are those that the mark divides: a text is its lines put together, so by induction over them either a
-- line is the mark, or it comes before both parts of what follows. And only these: the first mark stands where the plan ends.
use Prim.Native.Nat.{ℕ, suc, ◌+◌}
use native.Mathlib.Omega.{arith}
use mathlib.Core.Bool.{Bool, true, false, cond, false≢true}
use mathlib.Core.List.{List, [], ◌∷◌, ◌++◌, append_assoc, append-nil}
use mathlib.Core.Logic.{◌≢◌, inl, inr}
use mathlib.Core.Path.{◌≡◌, refl, sym, ap, ◌∙◌}
use lib.ListN.{length, take, drop, length-append, drop_of_length-le}
use lib.Seq.{take_all, take-append_seam, take-append-add, drop-append-add}
use borrow.Author.Tests.{eqb-true}
use Rattle.model.specs.Numbers.{Each}
use Rattle.plan_text.specs.Lines.{Line, line_end, split_by, last_line, lines_in, lines_of}
use Rattle.plan_text.proofs.Split.{joined_by, split_some, split_joined, split_clean, split_alone, split_then}
use Rattle.plan_text.proofs.LineByLine.{line_then}
use Rattle.moves_text.specs.Quoted.{quoted}
use Rattle.moves_text.specs.Division.{events_mark, Divides, is_e, is_mark, length_before, plan_length, plan_part, event_part}

-- bytes of one line
abbrev pub Clean : List ℕ → Type 0
Clean p = Each (λ (c : ℕ). c ≢ line_end) p

abbrev pub ended : List ℕ → Line
ended p = record { bytes = p; ended = true }

-- the first line of a text, and those after it
pub lines_then : (p rest : List ℕ) → Clean p → lines_of (p ++ line_end ∷ rest) ≡ ended p ∷ lines_of rest
lines_then p rest clean = ap lines_in (split_then line_end p rest clean) ∙ line_then p (split_by line_end rest) (split_some line_end rest)

pub lines_alone : (p : List ℕ) → Clean p → lines_of p ≡ last_line p
lines_alone p clean = ap lines_in (split_alone line_end p clean)

-- bytes are the mark's exactly when the test passes
mark_told : (p : List ℕ) → is_e p ≡ true → p ≡ quoted "E"
mark_told [] e = absurd (false≢true e)
mark_told (b ∷ []) e = rw (eqb-true b 69 e) refl
mark_told (b ∷ c ∷ bs) e = absurd (false≢true e)

not_mark : (p : List ℕ) → is_e p ≡ false → ended p ≢ events_mark
not_mark p e same = false≢true (sym e ∙ ap (λ (l : Line). is_e l.bytes) same)

-- a text whose plan has so many bytes
abbrev Divided : ℕ → List ℕ → Type 0
Divided n text = Divides text (take n text) (drop (n + 2) text)

module _ (p rest : List ℕ) (clean : Clean p) where
  -- the mark divides a text that begins with it
  mark_divides : p ≡ quoted "E" → Divided 0 (p ++ line_end ∷ rest)
  mark_divides e = inl (record { whole = rw e refl; lines = lines_then p rest clean ∙ rw e refl; first = tt })

  -- another line comes before the plan of what follows
  line_more : (plan events : List ℕ) → ended p ≢ events_mark → Divides rest plan events → Divides (p ++ line_end ∷ rest) (p ++ line_end ∷ plan) events
  line_more plan events other (inl m) =
      inl (record {
        whole = rw m.whole (simp append_assoc);
        lines = lines_then p rest clean ∙ rw (m.lines, lines_then p plan clean) refl;
        first = rw (lines_then p plan clean) (other, m.first);
      })
  line_more plan events other (inr u) =
      inr (record { whole = rw u.whole refl; none = u.none; first = rw (lines_then p plan clean) (other, u.first) })

  next_divided : (m : ℕ) → Divided m rest → (b : Bool) → is_e p ≡ b → Divided (cond b 0 (length p + 1 + m)) (p ++ line_end ∷ rest)
  next_divided m h true e = mark_divides (mark_told p e)
  next_divided m h false e =
      let text = p ++ line_end ∷ rest in
      let size : length p + 1 + m ≡ length p + suc m = omega arith in
      let reach : length p + 1 + m + 2 ≡ length p + suc (m + 2) = omega arith in
      let before : take (length p + 1 + m) text ≡ p ++ line_end ∷ take m rest = rw size (take-append-add p (line_end ∷ rest) (suc m)) in
      let after : drop (length p + 1 + m + 2) text ≡ drop (m + 2) rest = rw reach (drop-append-add p (line_end ∷ rest) (suc (m + 2))) in
      rw (before, after) (line_more (take m rest) (drop (m + 2) rest) (not_mark p e) h)

last_divided : (p : List ℕ) → Clean p → Divided (length_before (last_line p)) p
last_divided [] clean = inr (record { whole = refl; none = refl; first = tt })
last_divided (b ∷ bs) clean =
    let p = b ∷ bs in
    let n = length p + 0 + 0 in
    let all : take n p ≡ p = take_all n p (omega arith) in
    inr (record {
      whole = sym all;
      none = drop_of_length-le p {i = n + 2} (omega arith);
      first = rw (all, lines_alone p clean) (λ e. false≢true (ap (λ (l : Line). l.ended) e), tt);
    })

parts_divided : (ps : List (List ℕ)) → Each Clean ps → Divided (length_before (lines_in ps)) (joined_by line_end ps)
parts_divided [] clean = last_divided [] tt
parts_divided (p ∷ []) clean = last_divided p clean.0
parts_divided (p ∷ q ∷ ps) clean =
    next_divided p (joined_by line_end (q ∷ ps)) clean.0 (length_before (lines_in (q ∷ ps))) (parts_divided (q ∷ ps) clean.1) (is_e p) refl

pub input_divided : (input : List ℕ) → Divides input (plan_part input) (event_part input)
unfolding plan_length
input_divided input = rw (split_joined line_end input) at (parts_divided (split_by line_end input) (split_clean line_end input))

-- the bytes of lines, with the LFs that they have
abbrev bytes_in : List Line → ℕ
bytes_in [] = 0
bytes_in (l ∷ ls) = length l.bytes + cond l.ended 1 0 + bytes_in ls

last_size : (p : List ℕ) → bytes_in (last_line p) ≡ length p
last_size [] = refl
last_size (b ∷ bs) = omega arith

parts_size : (ps : List (List ℕ)) → bytes_in (lines_in ps) ≡ length (joined_by line_end ps)
parts_size [] = refl
parts_size (p ∷ []) = last_size p
parts_size (p ∷ q ∷ ps) = omega (arith, parts_size (q ∷ ps), length-append p (line_end ∷ joined_by line_end (q ∷ ps)))

lines_size : (text : List ℕ) → bytes_in (lines_of text) ≡ length text
lines_size text = rw (split_joined line_end text) at (parts_size (split_by line_end text))

-- a line is the mark exactly when the test passes
is_mark_lem : (bytes : List ℕ) (lf : Bool) → is_mark (record { bytes = bytes; ended = lf }) ≡ true → record { bytes = bytes; ended = lf } ≡ events_mark
is_mark_lem bytes true e = rw (mark_told bytes e) refl
is_mark_lem bytes false e = absurd (false≢true e)

other_line : (l : Line) → l ≢ events_mark → is_mark l ≡ false
other_line l other = go (is_mark l) refl
  where
    go : (b : Bool) → is_mark l ≡ b → is_mark l ≡ false
    go true e = absurd (other (is_mark_lem l.bytes l.ended e))
    go false e = e

-- lines of which none is the mark, before lines that begin with it or are none
before_mark : (ls rest : List Line) → length_before rest ≡ 0 → Each (λ (l : Line). l ≢ events_mark) ls → length_before (ls ++ rest) ≡ bytes_in ls
before_mark [] rest none h = none
before_mark (l ∷ ls) rest none h = rw (other_line l h.0) (omega (arith, before_mark ls rest none h.1))

module _ (input plan events : List ℕ) where
  -- whatever divides an input are its parts
  divided_so : Divides input plan events → (plan_part input ≡ plan) × (event_part input ≡ events)
  unfolding plan_length
  divided_so (inl m) =
      let size : plan_length input ≡ length plan =
      ap length_before m.lines ∙ before_mark (lines_of plan) (events_mark ∷ lines_of events) refl m.first ∙ lines_size plan in (
        rw (size, m.whole, append_assoc) (take-append_seam plan (quoted "E\n" ++ events)),
        rw (size, m.whole, append_assoc) (drop-append-add plan (quoted "E\n" ++ events) 2),
      )
  divided_so (inr u) =
      let size : plan_length input ≡ length input =
      ap (λ text. length_before (lines_of text)) u.whole
      ∙ ap length_before (sym (append-nil (lines_of plan)))
      ∙ before_mark (lines_of plan) [] refl u.first
      ∙ lines_size plan
      ∙ ap length (sym u.whole) in (
        rw size (take_all (length input) input (omega arith) ∙ u.whole),
        rw size (drop_of_length-le input {i = length input + 2} (omega arith) ∙ sym u.none),
      )

-- so two divisions of one input are equal
pub divides_one : (input plan events plan' events' : List ℕ) → Divides input plan events → Divides input plan' events' → (plan ≡ plan') × (events ≡ events')
divides_one input plan events plan' events' d e =
    let one = divided_so input plan events d in
    let other = divided_so input plan' events' e in
    (sym one.0 ∙ other.0, sym one.1 ∙ other.1)
