-- The canonical text of an accepted text's plan is never longer than that text: each record of the canonical text is one of the text's, none is there
-- twice, and a record's line in the text has at least as many bytes, since only leading zeros were left out.
use Prim.Native.Nat.{ℕ, suc, ◌+◌, ◌≤◌}
use native.Mathlib.Nat.{zero-add}
use native.Mathlib.Omega.{arith}
use mathlib.Core.Bool.{Bool, true, false, cond, false≢true}
use mathlib.Core.List.{List, [], ◌∷◌, ◌++◌, map}
use mathlib.Core.Logic.{◌≢◌, inl, inr}
use mathlib.Core.Path.{◌≡◌, refl, sym, ap, subst, ◌∙◌}
use lib.ListN.{length, length-append}
use Rattle.model.specs.Numbers.{InRange, Each}
use Rattle.model.specs.Questions.{Condition, EachCondition, AllHold, FirstFailure}
use Rattle.model.proofs.Decide.{Holds, conditions_split, conditions_append}
use Rattle.model.proofs.Lists.{each_map}
use Rattle.plan_text.specs.Lines.{Line, line_end, tab, split_by, lines_in, lines_of, is_skipped, columns, letter_in, fields_in}
use Rattle.plan_text.specs.Records.{sections, section_of, IsNumeral, value_on, record_in, key_of, Has}
use Rattle.plan_text.specs.TextQuestions.{max_text, text_number, IsRecord, records_of, WellFielded, start_after, line_conditions, lines_conditions, last_conditions, text_conditions}
use Rattle.plan_text.specs.Reading.{reading}
use Rattle.plan_text.specs.declared.Record.{Record}
use Rattle.plan_text.specs.declared.Reading.{Reading}
use Rattle.plan_text.proofs.Split.{joined_by, split_some, split_joined}
use Rattle.plan_text.proofs.LineForm.{number_below, fielded_numbers, record_in_lem}
use Rattle.plan_text.proofs.RecordLists.{has_each}
use Rattle.plan_text.proofs.FirstFailure.{reading_first_failure}
use Rattle.plan_text.proofs.SamePlan.{accepted_says}
use Rattle.moves_text.specs.Decimals.{decimal}
use Rattle.moves_text.proofs.Decimals.{decimal_short}
use Rattle.canonical_text.specs.CanonicalText.{plan_records, letter_of, fields_of, record_text, text_of, canonical_text}
use Rattle.canonical_text.specs.Order.{Below, Rising}
use Rattle.canonical_text.proofs.Members.{said_has}
use Rattle.canonical_text.proofs.Order.{records_rise, not_below}
use Rattle.canonical_text.proofs.RecordText.{line_joined}

-- no refusal of a text has number 0
abbrev Refusing : Condition Reading → Type 0
Refusing c = (a : Reading) → c.refusal a → text_number a.answer ≢ 0

none_refused : (Ok : Reading → Type 0) (cs : List (Condition Reading)) (a : Reading) → EachCondition Refusing cs → text_number a.answer ≡ 0 → FirstFailure Ok cs a → AllHold cs
none_refused Ok [] a refusing z h = tt
none_refused Ok (c ∷ cs) a refusing z (inl h) = absurd (refusing.0 a h.1 z)
none_refused Ok (c ∷ cs) a refusing z (inr h) = (h.0, none_refused Ok cs a refusing.1 z h.1)

-- what an accepted text's lines are
record Taken (l : Line) : Type 0 where
  pub ended : l.ended ≡ true
  pub section : IsRecord l → InRange (section_of (letter_in (columns l.bytes))) sections
  pub fielded : IsRecord l → WellFielded l

module _ (text : List ℕ) where
  line_refusing : (rs : List Record) (n from : ℕ) (l : Line) → EachCondition Refusing (line_conditions text rs n from l)
  line_refusing rs n from l = (
    λ a s e. omega (arith, s.says.number),
    (
      λ a s e. omega (arith, s.says.number),
      (
        λ a s e. omega (arith, s.says.number),
        (λ a s e. omega (arith, s.says.number), (λ a s e. omega (arith, s.says.number), (λ a s e. omega (arith, s.says.number), tt))),
      ),
    ),
  )

  -- the questions of a line after others
  abbrev asked : List Line → Line → List (Condition Reading)
  asked before l = line_conditions text (records_of before) (length before + 1) (start_after before) l

  refusing_from : (ls before : List Line) → EachCondition Refusing (lines_conditions text before ls)
  refusing_from [] before = tt
  refusing_from (l ∷ ls) before =
      conditions_append Refusing (asked before l) (lines_conditions text (before ++ l ∷ []) ls) (line_refusing (records_of before) _ _ l) (refusing_from ls (before ++ l ∷ []))

  taken_from : (ls before : List Line) → AllHold (lines_conditions text before ls) → Each Taken ls
  taken_from [] before h = tt
  taken_from (l ∷ ls) before h =
      let both = conditions_split Holds (asked before l) (lines_conditions text (before ++ l ∷ []) ls) h in
      let line = both.0 in (
        record { ended = line.0.0; section = λ e. (line.1.0 e).0; fielded = λ e. line.1.1.0 e },
        taken_from ls (before ++ l ∷ []) both.1,
      )

  module _ (answered : text_number (reading text).answer ≡ 0) where
    all_held : AllHold (text_conditions text)
    all_held =
        none_refused _ (text_conditions text) (reading text)
        (λ a s e. omega (arith, s.says.number), conditions_append Refusing (lines_conditions text [] (lines_of text)) (last_conditions text (lines_of text)) (refusing_from (lines_of text) []) (λ a s e. omega (arith, s.says.number), tt)) answered
        (reading_first_failure text)

    pub accepted_short : length text ≤ max_text
    accepted_short = all_held.0

    accepted_lines : Each Taken (lines_of text)
    accepted_lines = taken_from (lines_of text) [] (conditions_split Holds (lines_conditions text [] (lines_of text)) (last_conditions text (lines_of text)) all_held.1).0

-- parts put together are no longer where the first is not and none of the others is
joined_short : (s : ℕ) (g : List ℕ → List ℕ) (p q : List ℕ) (fs : List (List ℕ)) → length p ≤ length q → Each (λ (f : List ℕ). length (g f) ≤ length f) fs
    → length (joined_by s (p ∷ map g fs)) ≤ length (joined_by s (q ∷ fs))
joined_short s g p q [] first h = first
joined_short s g p q (f ∷ fs) first h =
    omega (
      arith,
      first,
      length-append p (s ∷ joined_by s (g f ∷ map g fs)),
      length-append q (s ∷ joined_by s (f ∷ fs)),
      joined_short s g (g f) f fs h.0 h.1,
    )

-- a number without leading zeros has no more digits than it was given
abbrev trimmed : List ℕ → List ℕ
trimmed f = decimal (value_on 0 f)

trimmed_short : (f : List ℕ) → IsNumeral f → length (trimmed f) ≤ length f
trimmed_short f h = decimal_short (length f) (value_on 0 f) h.0.0 (rw zero-add at (number_below f 0 0 h.1 (omega arith)))

trimmed_each : (fs : List (List ℕ)) → map decimal (map (value_on 0) fs) ≡ map trimmed fs
trimmed_each [] = refl
trimmed_each (f ∷ fs) = rw (trimmed_each fs) refl

-- a letter of the list is one byte
one_letter : (p : List ℕ) → 1 ≤ section_of p → length p ≡ 1
one_letter [] h = absurd (omega arith)
one_letter (b ∷ []) h = refl
one_letter (b ∷ c ∷ bs) h = absurd (omega arith)

first_part : (ps : List (List ℕ)) → ps ≢ [] → letter_in ps ∷ fields_in ps ≡ ps
first_part [] some = absurd (some refl)
first_part (p ∷ ps) some = refl

module _ (l : Line) (taken : Taken l) (is : IsRecord l) where
  abbrev letter : List ℕ
  letter = letter_in (columns l.bytes)

  abbrev fields : List (List ℕ)
  fields = fields_in (columns l.bytes)

  line_whole : joined_by tab (letter ∷ fields) ≡ l.bytes
  line_whole = ap (joined_by tab) (first_part (columns l.bytes) (split_some tab l.bytes)) ∙ split_joined tab l.bytes

  -- the record's fields are those of the line, trimmed
  fields_told : fields_of (record_in l.bytes) ≡ map trimmed fields
  fields_told =
      ap fields_of (record_in_lem l.bytes is) ∙ ap (map decimal) (fielded_numbers fields (section_of letter) (taken.fielded is)) ∙ trimmed_each fields

  -- so its line is no longer
  record_short : length (record_text (record_in l.bytes)) ≤ length l.bytes + 1
  record_short =
      let r = record_in l.bytes in
      let first : length (letter_of r) ≤ length letter = omega (arith, one_letter letter (taken.section is).0) in
      let short = joined_short tab trimmed (letter_of r) letter fields first (each_map _ _ trimmed_short fields (taken.fielded is).1) in
      let line : length (record_text r) ≡ length (joined_by tab (letter_of r ∷ fields_of r)) + 1 =
      ap length (line_joined (letter_of r) (fields_of r)) ∙ length-append (joined_by tab (letter_of r ∷ fields_of r)) (line_end ∷ []) in
      omega (arith, line, ap (λ fs. length (joined_by tab (letter_of r ∷ fs))) fields_told, short, ap length line_whole)

-- the records of lines, written, are no longer than the lines
record_added : (l : Line) → Taken l → (m : ℕ) (b : Bool) → is_skipped l.bytes ≡ b → (rs : List Record) → length (text_of rs) ≤ m
    → length (text_of (cond b rs (record_in l.bytes ∷ rs))) ≤ length l.bytes + suc m
record_added l taken m true e rs h = omega arith
record_added l taken m false e rs h = omega (arith, length-append (record_text (record_in l.bytes)) (text_of rs), record_short l taken e)

lines_short : (ps : List (List ℕ)) → Each Taken (lines_in ps) → length (text_of (records_of (lines_in ps))) ≤ length (joined_by line_end ps)
lines_short [] h = omega arith
lines_short ([] ∷ []) h = omega arith
lines_short ((b ∷ bs) ∷ []) h = absurd (false≢true h.0.ended)
lines_short (p ∷ q ∷ ps) h =
    omega (
      arith,
      length-append p (line_end ∷ joined_by line_end (q ∷ ps)),
      record_added (record { bytes = p; ended = true }) h.0 (length (joined_by line_end (q ∷ ps))) (is_skipped p) refl
          (records_of (lines_in (q ∷ ps))) (lines_short (q ∷ ps) h.1),
    )

-- a list without one of its records
removed : (q : Record) (xs : List Record) → Has xs q
    → (ys : List Record) × (length (text_of xs) ≡ length (record_text q) + length (text_of ys)) × ((x : Record) → x ≢ q → Has xs x → Has ys x)
removed q [] x' = elim x' [ ]
removed q (y ∷ ys) (inl e) = (
  ys,
  length-append (record_text y) (text_of ys) ∙ rw e refl,
  λ x ne. rest x ne,
)
  where
    rest : (x : Record) → x ≢ q → Has (y ∷ ys) x → Has ys x
    rest x ne (inl same) = absurd (ne (sym same ∙ e))
    rest x ne (inr h) = h
removed q (y ∷ ys) (inr h) =
    let less = removed q ys h in
    (y ∷ less.0, omega (arith, length-append (record_text y) (text_of ys), length-append (record_text y) (text_of less.0), less.1), λ x ne. rest less.0 less.2 x ne)
  where
    rest : (zs : List Record) → ((x : Record) → x ≢ q → Has ys x → Has zs x) → (x : Record) → x ≢ q → Has (y ∷ ys) x → Has (y ∷ zs) x
    rest zs keep x ne (inl same) = inl same
    rest zs keep x ne (inr k) = inr (keep x ne k)

-- records whose keys rise, all of them in another list, are no longer than that
rising_short : (rs xs : List Record) → Rising rs → ((x : Record) → Has rs x → Has xs x) → length (text_of rs) ≤ length (text_of xs)
rising_short [] xs rises has = omega arith
rising_short (q ∷ rs) xs rises has =
    let less = removed q xs (has q (inl refl)) in
    let rest = rising_short rs less.0 rises.1
    (λ x h. less.2 x (λ e. not_below (key_of q) (subst (λ y. Below (key_of q) (key_of y)) e (has_each (λ y. Below (key_of q) (key_of y)) rs x rises.0 h))) (has x (inr h))) in
    omega (arith, length-append (record_text q) (text_of rs), less.1, rest)

module _ (text : List ℕ) (answered : text_number (reading text).answer ≡ 0) where
  -- the canonical text of an accepted text's plan is never longer than that text
  pub never_longer : length (canonical_text (reading text).plan) ≤ length text
  unfolding canonical_text
  never_longer =
      let p = (reading text).plan in
      let within = rising_short (plan_records p) (records_of (lines_of text)) (records_rise p) (said_has p (records_of (lines_of text)) (accepted_says text answered)) in
      let lines = lines_short (split_by line_end text) (accepted_lines text answered) in
      omega (arith, within, lines, ap length (split_joined line_end text))
