-- The computed reading is the first failure as worded: line by line, each test decides its question, and where all are met the
-- draft goes on with the line's record.
use Prim.Native.Nat.{ℕ, ◌+◌, ◌-◌, ◌<◌}
use native.Mathlib.Omega.{arith}
use mathlib.Core.Bool.{Bool, true, false, cond, ◌&&◌, ◌||◌, false≢true}
use mathlib.Core.List.{List, [], ◌∷◌, ◌++◌, append_assoc, append-nil}
use mathlib.Core.Logic.{⊎_elim}
use mathlib.Core.Path.{◌≡◌, refl, sym, ap, subst, ◌∙◌}
use lib.Dec.{eqb, ltb}
use lib.ListN.{length, take, drop, length-append}
use lib.Seq.{set-get_or}
use borrow.Author.Tests.{eqb-true}
use Rattle.byte_slices.specs.Bytes.{slice, index_of}
use Rattle.model.specs.Numbers.{each}
use Rattle.model.specs.Questions.{Condition, AllHold, FirstFailure}
use Rattle.model.specs.Plan.{no_stage}
use Rattle.model.proofs.Decide.{Decides, holding, decided, passes, decides_iff, decides_le, decides_lt}
use Rattle.model.proofs.Decide.{Answers, done, asked, choose, failure_append, Holds, conditions_split, first_failure_then}
use Rattle.plan_text.specs.Lines.{Line, line_end, lines_of, is_skipped, columns, letter_in, fields_in}
use Rattle.plan_text.specs.Records.{record_in, no_record, section_of, layout_of}
use Rattle.plan_text.specs.RecordTests.{is_numeral, known_of, in_ranges}
use Rattle.plan_text.specs.Draft.{Draft, empty_draft, index_named, draft_after, draft_after_all, draft_of, plan_of, held_in}
use Rattle.plan_text.specs.Meaning.{RecordsSaySoFar}
use Rattle.plan_text.specs.TextQuestions.{text_number, RefusesText, IsRecord, records_of, start_after, Follows, WellFielded, InRanges, FirstWithKey, WithinTotal, last_section}
use Rattle.plan_text.specs.TextQuestions.{max_text, line_conditions, lines_conditions, LinesTaken, last_conditions, text_conditions, Accepts}
use Rattle.plan_text.specs.Reading.{refused, accepted, follows, within_total, line_questions, read_from, reading}
use Rattle.plan_text.specs.declared.Record.{Record}
use Rattle.plan_text.specs.declared.TextAnswer.{TextAnswer}
use Rattle.plan_text.specs.declared.TextAnswer.TheVariants.{TooLong, BadLine, BadLetter, BadFields, OutOfRange, Repeated, Incomplete}
use Rattle.plan_text.specs.declared.Reading.{Reading}
use Rattle.plan_text.proofs.LineByLine.{end_within, line_length, line_here, no_line}
use Rattle.plan_text.proofs.LineForm.{decides_record, decides_well_formed, decides_follows, decides_fielded, fielded_blank, record_in_lem, skipped_in}
use Rattle.plan_text.proofs.Kept.{Kept, Taken}
use Rattle.plan_text.proofs.KeptAfter.{kept_after, nothing_kept}
use Rattle.plan_text.proofs.RecordQuestions.{ranges_told, decides_in_ranges, decides_first, decides_total}
use Rattle.plan_text.proofs.Completeness.{decides_complete, complete_sound}
use Rattle.plan_text.proofs.RecordsSay.{says_so_far, records_say, records_sized}

-- the draft after one record more
pub draft_more : (d : Draft) (rs qs : List Record) → draft_after_all d (rs ++ qs) ≡ draft_after_all (draft_after_all d rs) qs
draft_more d [] qs = refl
draft_more d (r ∷ rs) qs = draft_more (draft_after d r) rs qs

-- a skipped line writes nothing
pub nothing_written : (d : Draft) → draft_after d no_record ≡ d
unfolding draft_after
nothing_written d =
    let same = set-get_or d.plan.stages (index_named d.plan.lengths no_record) no_stage in
    λ i. record {
      plan = record {
        resources = d.plan.resources;
        types = d.plan.types;
        rows = d.plan.rows;
        capacity = d.plan.capacity;
        rank = d.plan.rank;
        bound = d.plan.bound;
        lengths = d.plan.lengths;
        stages = same i;
      };
      bounded = d.bounded;
      section = d.section;
    }

-- what is asked of records alone, and is met by a skipped line
decides_unless : (skipped : Bool) {P : Type 0} {b : Bool} → (skipped ≡ true → b ≡ true) → (skipped ≡ false → Decides P b) → Decides (skipped ≡ false → P) b
decides_unless true met d = rw (met refl) (holding (λ e. absurd (false≢true (sym e))))
decides_unless false met d = decides_iff (λ h e. h) (λ h. h refl) (d refl)

abbrev pub is_ok : Reading → Bool
is_ok a = eqb (text_number a.answer) 0

-- one line after the records rs
module _ (text : List ℕ) (rs : List Record) (kept : Kept rs (draft_of rs)) (n from : ℕ) (l : Line) where
  abbrev d : Draft
  d = draft_of rs

  abbrev r : Record
  r = record_in l.bytes

  abbrev fields : List (List ℕ)
  fields = fields_in (columns l.bytes)

  one_more : draft_of (rs ++ r ∷ []) ≡ draft_after d r
  one_more = draft_more empty_draft rs (r ∷ [])

  section_of_lem : IsRecord l → r.section ≡ section_of (letter_in (columns l.bytes))
  section_of_lem e = ap (λ (q : Record). q.section) (record_in_lem l.bytes e)

  met_three : Decides (IsRecord l → Follows (last_section rs) (section_of (letter_in (columns l.bytes))))
      (is_skipped l.bytes || follows d.section r.section)
  met_three =
      decides_record (is_skipped l.bytes)
      (λ e. rw (section_of_lem e, ← kept.last) (decides_follows d.section (section_of (letter_in (columns l.bytes)))))

  met_four : Decides (IsRecord l → WellFielded l)
      (is_skipped l.bytes || (eqb (length fields) (length (layout_of r.section)) && each is_numeral fields))
  met_four =
      decides_record (is_skipped l.bytes)
      (λ e. rw (section_of_lem e) (decides_fielded fields (length (layout_of (section_of (letter_in (columns l.bytes)))))))

  met_five : Decides (IsRecord l → InRanges rs r) (in_ranges (known_of d.plan) r)
  unfolding in_ranges
  met_five = decides_unless (is_skipped l.bytes) (λ e. rw (skipped_in l.bytes e) refl) (λ e. decides_in_ranges rs d kept r)

  module _ (three : IsRecord l → Follows (last_section rs) (section_of (letter_in (columns l.bytes)))) (five : IsRecord l → InRanges rs r) where
    follows_last : IsRecord l → Follows d.section r.section
    follows_last e = rw (section_of_lem e, kept.last) (three e)

    met_six : Decides (IsRecord l → FirstWithKey rs r) (eqb (held_in d r) 0)
    unfolding held_in
    met_six =
        decides_unless (is_skipped l.bytes) (λ e. rw (skipped_in l.bytes e) refl)
        (λ e. decides_first rs d kept r (follows_last e).0 ((ranges_told rs d kept r).1 (five e)))

    nothing_held : (e : IsRecord l) → FirstWithKey rs r → held_in d r ≡ 0
    nothing_held e first = eqb-true (held_in d r) 0 (passes (decides_first rs d kept r (follows_last e).0 ((ranges_told rs d kept r).1 (five e))) first)

    met_total : Decides (IsRecord l → WithinTotal rs r) (within_total d.plan.lengths r)
    met_total =
        decides_unless (is_skipped l.bytes) (λ e. rw (skipped_in l.bytes e) refl) (λ e. decides_total rs d kept r (follows_last e).2)

  -- the line stands in the text
  module _ (shown : take (from + length l.bytes - from) (drop from text) ≡ l.bytes) where
    refusal : (number : ℕ) (a : TextAnswer) → text_number a ≡ number → RefusesText text number n from l.bytes (refused a n from (from + length l.bytes))
    refusal number a e = record { says = record { number = e; line = refl; from = refl; to = refl; shown = shown }; plan = refl }

    pub line_answers : Answers is_ok (line_questions n from d l) (line_conditions text rs n from l)
    line_answers =
        asked (decides_well_formed l) (λ h. refusal 2 BadLine refl) refl
        (λ two.
        asked met_three (λ h. refusal 3 BadLetter refl) refl
        (λ three.
        asked met_four (λ h. refusal 4 BadFields refl) refl
        (λ four.
        asked met_five (λ h. refusal 5 OutOfRange refl) refl
        (λ five.
        asked (met_six three five) (λ h. refusal 6 Repeated refl) refl
        (λ six. asked (met_total three five) (λ h. refusal 5 OutOfRange refl) refl (λ total. done))))))

  -- the draft and the records go on together
  module _ (all : AllHold (line_conditions text rs n from l)) where
    taken : IsRecord l → Taken rs d r
    taken e =
        let three = follows_last all.1.0 all.1.1.1.0 in
        record {
          follows = three e;
          ranges = (ranges_told rs d kept r).1 (all.1.1.1.0 e);
          blank = rw (record_in_lem l.bytes e) (fielded_blank fields (section_of (letter_in (columns l.bytes))) (all.1.1.0 e));
          first = nothing_held all.1.0 all.1.1.1.0 e (all.1.1.1.1.0 e);
          total = all.1.1.1.1.1.0 e;
        }

    pub goes_on : (b : Bool) → is_skipped l.bytes ≡ b
        → (Kept (rs ++ records_of (l ∷ [])) (draft_of (rs ++ records_of (l ∷ [])))) × (draft_of (rs ++ records_of (l ∷ [])) ≡ draft_after d r)
    goes_on true e = rw (e, append-nil rs, skipped_in l.bytes e) (kept, sym (nothing_written d))
    goes_on false e = rw e (subst (Kept (rs ++ r ∷ [])) (sym one_more) (kept_after rs d kept r (taken e)), one_more)

pub records_append : (ls ms : List Line) → records_of (ls ++ ms) ≡ records_of ls ++ records_of ms
records_append [] ms = refl
records_append (l ∷ ls) ms = go (is_skipped l.bytes) (records_append ls ms)
  where
    go : (b : Bool) → records_of (ls ++ ms) ≡ records_of ls ++ records_of ms
        → cond b (records_of (ls ++ ms)) (record_in l.bytes ∷ records_of (ls ++ ms)) ≡ cond b (records_of ls) (record_in l.bytes ∷ records_of ls) ++ records_of ms
    go true e = e
    go false e = ap (λ rs. record_in l.bytes ∷ rs) e

start_append : (before : List Line) (l : Line) → start_after (before ++ l ∷ []) ≡ start_after before + length l.bytes + 1
start_append [] l = omega arith
start_append (b ∷ before) l = omega (arith, start_append before l)

-- from a line of the text on
module _ (text : List ℕ) (from : ℕ) (l : Line) (ls : List Line) (lines : lines_of (drop from text) ≡ l ∷ ls) where
  from_within : from < length text
  from_within =
      ⊎_elim (λ (h : from < length text). h)
      (λ (h : ¬ (from < length text)). let none : ◌≡◌ {A = ℕ} 0 1 = cc (no_line text from (omega arith)) in absurd (omega arith))
      (decided (decides_lt from (length text)))

  abbrev end : ℕ
  end = from + index_of line_end (slice from (length text) text)

  first_line : l ≡ record { bytes = take (end - from) (drop from text); ended = ltb end (length text) }
  first_line = cc (line_here text from end refl from_within)

  line_size : from + length l.bytes ≡ end
  line_size =
      let size = ap (λ (x : Line). length x.bytes) first_line ∙ line_length text from end refl from_within in
      omega (arith, size, end_within text from end refl from_within)

  pub shown_line : take (from + length l.bytes - from) (drop from text) ≡ l.bytes
  shown_line = rw line_size (sym (ap (λ (x : Line). x.bytes) first_line))

  pub next_lines : lines_of (drop (from + length l.bytes + 1) text) ≡ ls
  next_lines = rw line_size (cc (line_here text from end refl from_within))

module _ (text : List ℕ) where
  abbrev KeptLines : List Line → Type 0
  KeptLines before = Kept (records_of before) (draft_of (records_of before))

  -- one line more that is taken
  module _ (before : List Line) (l : Line) (kept : KeptLines before)
      (hold : AllHold (line_conditions text (records_of before) (length before + 1) (start_after before) l)) where
    abbrev on : Kept (records_of before ++ records_of (l ∷ [])) (draft_of (records_of before ++ records_of (l ∷ [])))
        × (draft_of (records_of before ++ records_of (l ∷ [])) ≡ draft_after (draft_of (records_of before)) (record_in l.bytes))
    on = goes_on text (records_of before) kept (length before + 1) (start_after before) l hold (is_skipped l.bytes) refl

    kept_more : KeptLines (before ++ l ∷ [])
    kept_more = subst (λ rs. Kept rs (draft_of rs)) (sym (records_append before (l ∷ []))) on.0

    draft_after_lem : draft_of (records_of (before ++ l ∷ [])) ≡ draft_after (draft_of (records_of before)) (record_in l.bytes)
    draft_after_lem = ap draft_of (records_append before (l ∷ [])) ∙ on.1

  kept_lines : (ls before : List Line) → KeptLines before → AllHold (lines_conditions text before ls) → KeptLines (before ++ ls)
  kept_lines [] before kept hold = rw append-nil kept
  kept_lines (l ∷ ls) before kept hold =
      let both = conditions_split Holds (line_conditions text (records_of before) (length before + 1) (start_after before) l) (lines_conditions text (before ++ l ∷ []) ls) hold in
      subst KeptLines (append_assoc before (l ∷ []) ls) (kept_lines ls (before ++ l ∷ []) (kept_more before l kept both.0) both.1)

  -- what the records of lines that are taken say of the plan so far, which questions 5 and 7 are asked of when they are computed
  pub so_far_said : (ls : List Line) → LinesTaken text ls → RecordsSaySoFar (records_of ls) (plan_of (records_of ls))
  so_far_said ls taken = says_so_far (records_of ls) (kept_lines ls [] nothing_kept taken)

  abbrev lines : List Line
  lines = lines_of text

  abbrev seven : List (Condition Reading)
  seven = last_conditions text lines

  -- the lines ls read after those before them
  abbrev read_after : List Line → List Line → Reading
  read_after before ls = read_from (length before) (start_after before) (draft_of (records_of before)) ls

  abbrev Right : List Line → List Line → Type 0
  Right before ls = FirstFailure (FirstFailure (Accepts text) seven) (lines_conditions text before ls) (read_after before ls)

  right_end : KeptLines lines → Right lines []
  right_end kept =
      choose (Accepts text) (RefusesText text 7 (length lines + 1) 0 []) (accepted (plan_of (records_of lines))) (refused Incomplete (length lines + 1) 0 0)
      (decides_complete (records_of lines) kept)
      (λ h. record { says = record { number = refl; line = refl; from = refl; to = refl; shown = refl }; plan = refl })
      (λ c. record {
        says = record { number = refl; line = refl; from = refl; to = refl; shown = refl };
        plan = records_say (records_of lines) kept c;
        sound = complete_sound (records_of lines) kept c;
        sized = records_sized (records_of lines) kept;
      })

  right_line : (l : Line) (ls before : List Line) → KeptLines before → lines_of (drop (start_after before) text) ≡ l ∷ ls
      → (KeptLines (before ++ l ∷ []) → lines_of (drop (start_after (before ++ l ∷ [])) text) ≡ ls → Right (before ++ l ∷ []) ls) → Right before (l ∷ ls)
  right_line l ls before kept here later =
      let shown = shown_line text (start_after before) l ls here in
      let Asked-here = line_conditions text (records_of before) (length before + 1) (start_after before) l in
      let rest = lines_conditions text (before ++ l ∷ []) ls in
      let answers = line_answers text (records_of before) kept (length before + 1) (start_after before) l shown in
      failure_append (FirstFailure (Accepts text) seven) Asked-here rest _
      (first_failure_then is_ok _ (FirstFailure (FirstFailure (Accepts text) seven) rest) answers
      (λ hold.
      let starts = start_append before l in
      let goes = later (kept_more before l kept hold) (rw starts (next_lines text (start_after before) l ls here)) in
      rw (length-append, starts, draft_after_lem before l kept hold) at goes))

  right_from : (ls before : List Line) → KeptLines before → lines_of (drop (start_after before) text) ≡ ls → before ++ ls ≡ lines → Right before ls
  right_from [] before kept here all =
      let same : lines ≡ before = sym all ∙ append-nil before in
      subst (λ b. Right b []) same (right_end (subst KeptLines (sym same) kept))
  right_from (l ∷ ls) before kept here all =
      right_line l ls before kept here (λ keeps rest. right_from ls (before ++ l ∷ []) keeps rest (append_assoc before (l ∷ []) ls ∙ all))

  -- the answer is that of the first question that fails, in the first line that has one
  pub reading_first_failure : FirstFailure (Accepts text) (text_conditions text) (reading text)
  unfolding reading
  reading_first_failure =
      choose (FirstFailure (Accepts text) (lines_conditions text [] lines ++ seven)) (RefusesText text 1 0 0 [])
      (read_from 0 0 empty_draft lines) (refused TooLong 0 0 0) (decides_le (length text) max_text)
      (λ h. record { says = record { number = refl; line = refl; from = refl; to = refl; shown = refl }; plan = refl })
      (λ h. failure_append (Accepts text) (lines_conditions text [] lines) seven _ (right_from lines [] nothing_kept refl refl))
