-- What an accepted text is: its records were taken one by one and are complete, so its plan is sound. A refused text has the
-- empty plan, and a text that is too long is refused whatever it holds.
use Prim.Native.Nat.{ℕ, ◌+◌, ◌≤◌, ◌<◌}
use native.Mathlib.Omega.{arith}
use mathlib.Core.Bool.{Bool, true, false, cond, false≢true}
use mathlib.Core.List.{List, [], ◌∷◌, ◌++◌, map, append_assoc, append-nil}
use mathlib.Core.Logic.{◌≢◌}
use mathlib.Core.Path.{◌≡◌, refl, sym, ap}
use lib.Dec.{leb}
use lib.ListN.{length, drop}
use borrow.Author.Tests.{lt-leb, eq-eqb}
use Rattle.model.specs.Questions.{Question, answer_of}
use Rattle.model.specs.Plan.{empty_plan}
use Rattle.model.specs.Soundness.{Sound}
use Rattle.model.proofs.Decide.{Decides, holding, failing, decides_le}
use Rattle.model.proofs.Decide as decide
use Rattle.plan_text.specs.Lines.{Line, lines_of, is_skipped}
use Rattle.plan_text.specs.Records.{record_in}
use Rattle.plan_text.specs.Draft.{Draft, empty_draft, draft_of, plan_of, draft_after}
use Rattle.plan_text.specs.TextQuestions.{max_text, text_number, records_of, Complete}
use Rattle.plan_text.specs.Reading.{refused, accepted, read_from, reading, of_line, form_questions, record_questions, is_complete}
use Rattle.plan_text.specs.declared.Record.{Record}
use Rattle.plan_text.specs.declared.TextAnswer.{TextAnswer}
use Rattle.plan_text.specs.declared.TextAnswer.TheVariants.{TooLong, Incomplete}
use Rattle.plan_text.specs.declared.Reading.{Reading}
use Rattle.plan_text.proofs.Kept.{Kept}
use Rattle.plan_text.proofs.KeptAfter.{nothing_kept}
use Rattle.plan_text.proofs.Completeness.{decides_complete, complete_sound}
use Rattle.plan_text.proofs.FirstFailure.{is_ok, line_answers, goes_on, shown_line, next_lines, records_append}

-- the records of a text that is read to its end
pub record Whole (rs : List Record) (a : Reading) : Type 0 where
  pub kept : Kept rs (draft_of rs)
  pub complete : Complete rs
  pub handed : a ≡ accepted (plan_of rs)

-- a refusal has the empty plan, in whichever line it comes
abbrev EmptyIfRefused : Reading → Type 0
EmptyIfRefused a = text_number a.answer ≢ 0 → a.plan ≡ empty_plan

refused_in : (n from to : ℕ) (next : Reading) (qs : List (Question TextAnswer)) → EmptyIfRefused next
    → EmptyIfRefused (answer_of next (map (of_line n from to) qs))
refused_in n from to next [] h = h
refused_in n from to next (q ∷ qs) h = go q.met (refused_in n from to next qs h)
  where
    go : (b : Bool) → EmptyIfRefused (answer_of next (map (of_line n from to) qs))
        → EmptyIfRefused (cond b (answer_of next (map (of_line n from to) qs)) (refused q.refusal n from to))
    go true rest = rest
    go false rest = λ ne. refl

refused_from : (n from : ℕ) (d : Draft) (ls : List Line) → EmptyIfRefused (read_from n from d ls)
refused_from n from d [] = go (is_complete d)
  where
    go : (b : Bool) → EmptyIfRefused (cond b (accepted d.plan) (refused Incomplete (n + 1) 0 0))
    go true ne = absurd (ne refl)
    go false ne = refl
refused_from n from d (l ∷ ls) =
    let to = from + length l.bytes in
    let r = record_in l.bytes in
    refused_in (n + 1) from to (read_from (n + 1) (to + 1) (draft_after d r) ls) (form_questions d.section l ++ record_questions d r)
    (refused_from (n + 1) (to + 1) (draft_after d r) ls)

-- demand 1: a refused text yields the empty plan
pub refused_empty : (text : List ℕ) → text_number (reading text).answer ≢ 0 → (reading text).plan ≡ empty_plan
unfolding reading
refused_empty text = go (leb (length text) max_text)
  where
    go : (b : Bool) → EmptyIfRefused (cond b (read_from 0 0 empty_draft (lines_of text)) (refused TooLong 0 0 0))
    go true = refused_from 0 0 empty_draft (lines_of text)
    go false = λ ne. refl

module _ (text : List ℕ) where
  whole_end : (rs : List Record) (n from : ℕ) → Kept rs (draft_of rs) → is_ok (read_from n from (draft_of rs) []) ≡ true
      → Whole (rs ++ []) (read_from n from (draft_of rs) [])
  whole_end rs n from kept = go (decides_complete rs kept)
    where
      go : {b : Bool} → Decides (Complete rs) b
          → let a = cond b (accepted (draft_of rs).plan) (refused Incomplete (n + 1) 0 0) in is_ok a ≡ true → Whole (rs ++ []) a
      go (holding c) e = rw (append-nil rs) (record { kept = kept; complete = c; handed = refl })
      go (failing c) e = absurd (false≢true e)

  whole_line : (l : Line) (ls : List Line) (rs : List Record) (n from : ℕ) → Kept rs (draft_of rs) → lines_of (drop from text) ≡ l ∷ ls
      → is_ok (read_from n from (draft_of rs) (l ∷ ls)) ≡ true
      → ((qs : List Record) (at : ℕ) → Kept qs (draft_of qs) → lines_of (drop at text) ≡ ls → is_ok (read_from (n + 1) at (draft_of qs) ls) ≡ true
      → Whole (qs ++ records_of ls) (read_from (n + 1) at (draft_of qs) ls))
      → Whole (rs ++ records_of (l ∷ ls)) (read_from n from (draft_of rs) (l ∷ ls))
  whole_line l ls rs n from kept lines ok later =
      let shown = shown_line text from l ls lines in
      let next = read_from (n + 1) (from + length l.bytes + 1) (draft_after (draft_of rs) (record_in l.bytes)) ls in
      let answers = line_answers text rs kept (n + 1) from l shown in
      let hold = decide.all_hold is_ok next answers ok in
      let on = goes_on text rs kept (n + 1) from l hold (is_skipped l.bytes) refl in
      let same = decide.accepted is_ok next answers hold in
      let qs = rs ++ records_of (l ∷ []) in
      let at = from + length l.bytes + 1 in
      let goes : next ≡ read_from (n + 1) at (draft_of qs) ls = ap (λ d. read_from (n + 1) at d ls) (sym on.1) in
      let rest = later qs at on.0 (next_lines text from l ls lines) (rw (same, goes) at ok) in
      rw (same, goes, records_append (l ∷ []) ls, ← append_assoc rs (records_of (l ∷ [])) (records_of ls)) rest

  whole_from : (ls : List Line) (rs : List Record) (n from : ℕ) → Kept rs (draft_of rs) → lines_of (drop from text) ≡ ls
      → is_ok (read_from n from (draft_of rs) ls) ≡ true → Whole (rs ++ records_of ls) (read_from n from (draft_of rs) ls)
  whole_from [] rs n from kept lines ok = whole_end rs n from kept ok
  whole_from (l ∷ ls) rs n from kept lines ok =
      whole_line l ls rs n from kept lines ok (λ qs at keeps rest good. whole_from ls qs (n + 1) at keeps rest good)

  abbrev records : List Record
  records = records_of (lines_of text)

  pub accepted_whole : text_number (reading text).answer ≡ 0 → Whole records (reading text)
  unfolding reading
  accepted_whole e = go (decides_le (length text) max_text) e
    where
      go : {b : Bool} → Decides (length text ≤ max_text) b
          → let a = cond b (read_from 0 0 empty_draft (lines_of text)) (refused TooLong 0 0 0) in text_number a.answer ≡ 0 → Whole records a
      go (holding h) e = whole_from (lines_of text) [] 0 0 nothing_kept refl (eq-eqb _ 0 e)
      go (failing h) e = absurd (omega (arith, e))

  -- demand 1: an accepted text has a sound plan
  pub accepted_sound : text_number (reading text).answer ≡ 0 → Sound (reading text).plan
  accepted_sound e = let w = accepted_whole e in rw w.handed (complete_sound records w.kept w.complete)

  -- a text of more than 65,536 bytes is refused by 1, whatever it holds
  pub too_long : max_text < length text → reading text ≡ refused TooLong 0 0 0
  unfolding reading
  too_long h = rw (lt-leb (length text) max_text h) refl
