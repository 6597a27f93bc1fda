-- The line that a refusal is about lies within the text, so its two ends fit 32 bits each.
use Prim.Native.Nat.{ℕ, ◌+◌, ◌≤◌}
use native.Mathlib.Omega.{arith}
use mathlib.Core.Bool.{Bool, true, false, cond}
use mathlib.Core.List.{List, [], ◌∷◌, ◌++◌, map}
use mathlib.Core.Path.{◌≡◌, refl}
use lib.Dec.{eqb}
use lib.ListN.{length}
use Rattle.model.specs.Questions.{Question, answer_of}
use Rattle.model.proofs.Decide.{Decides, holding, failing, decides_le}
use Rattle.plan_text.specs.Lines.{Line, line_end, wider, split_by, lines_in, lines_of}
use Rattle.plan_text.specs.Records.{record_in}
use Rattle.plan_text.specs.Draft.{Draft, empty_draft, draft_after}
use Rattle.plan_text.specs.TextQuestions.{max_text, start_after}
use Rattle.plan_text.specs.Reading.{refused, form_questions, record_questions, of_line, is_complete, read_from, reading}
use Rattle.plan_text.specs.declared.TextAnswer.{TextAnswer}
use Rattle.plan_text.specs.declared.TextAnswer.TheVariants.{TooLong}
use Rattle.plan_text.specs.declared.Reading.{Reading}

-- the lines of a text with their LF have no more bytes than the text, but for a LF that the last may lack
abbrev span : List (List ℕ) → ℕ
span [] = 0
span (p ∷ ps) = length p + 1 + span ps

wider_span : (b : ℕ) (ps : List (List ℕ)) → 1 ≤ span ps → span (wider b ps) ≡ span ps + 1
wider_span b [] h = absurd (omega arith)
wider_span b (p ∷ ps) h = omega arith

split_span : (bs : List ℕ) → span (split_by line_end bs) ≡ length bs + 1
split_span [] = refl
split_span (b ∷ bs) = go (eqb b line_end) (split_span bs)
  where
    ps : List (List ℕ)
    ps = split_by line_end bs

    go : (e : Bool) → span ps ≡ length bs + 1 → span (cond e ([] ∷ ps) (wider b ps)) ≡ length (b ∷ bs) + 1
    go true h = omega arith
    go false h = omega (arith, wider_span b ps (omega arith))

lines_span : (ps : List (List ℕ)) → start_after (lines_in ps) ≤ span ps
lines_span [] = omega arith
lines_span ([] ∷ []) = omega arith
lines_span ((b ∷ bs) ∷ []) = omega arith
lines_span (p ∷ q ∷ ps) = omega (arith, lines_span (q ∷ ps))

pub record Within (m : ℕ) (a : Reading) : Type 0 where
  pub from : a.from ≤ m
  pub to : a.to ≤ m

module _ {m : ℕ} where
  either : (b : Bool) {x y : Reading} → Within m x → Within m y → Within m (cond b x y)
  either true h k = h
  either false h k = k

  among : (n : ℕ) {from to : ℕ} {next : Reading} → from ≤ m → to ≤ m → Within m next → (qs : List (Question TextAnswer)) → Within m (answer_of next (map (of_line n from to) qs))
  among n f t h [] = h
  among n f t h (q ∷ qs) = either q.met (among n f t h qs) (record { from = f; to = t })

  nowhere : {a : Reading} → a.from ≡ 0 → a.to ≡ 0 → Within m a
  nowhere f t = record { from = omega arith; to = omega arith }

  read_within : (ls : List Line) (n from : ℕ) (d : Draft) → from + start_after ls ≤ m + 1 → Within m (read_from n from d ls)
  read_within [] n from d h = either (is_complete d) (nowhere refl refl) (nowhere refl refl)
  read_within (l ∷ ls) n from d h =
      let r = record_in l.bytes in
      among (n + 1) (omega arith) (omega arith) (read_within ls (n + 1) (from + length l.bytes + 1) (draft_after d r) (omega arith))
      (form_questions d.section l ++ record_questions d r)

pub shown_within : (text : List ℕ) → Within max_text (reading text)
unfolding reading
shown_within text = go (decides_le (length text) max_text)
  where
    go : {b : Bool} → Decides (length text ≤ max_text) b → Within max_text (cond b (read_from 0 0 empty_draft (lines_of text)) (refused TooLong 0 0 0))
    go (holding h) = read_within (lines_of text) 0 0 empty_draft (omega (arith, lines_span (split_by line_end text), split_span text))
    go (failing h) = nowhere refl refl
