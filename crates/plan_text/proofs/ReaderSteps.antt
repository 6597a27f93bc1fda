-- For the reader's loop: what is left to read from here is what was to be read at the start. A refusal of a line's questions is
-- the reading's, and where they are met the reading goes on with its record written.
use Prim.Native.Nat.{ℕ, zero, suc, ◌+◌, ◌-◌, ◌%◌, ◌≤◌, ◌<◌}
use native.Mathlib.Nat.{mod-eq_of_lt}
use native.Mathlib.Numerals.{sub-one}
use native.Mathlib.Omega.{arith}
use mathlib.Core.Bool.{Bool, true, false, cond, false≢true}
use mathlib.Core.List.{List, [], ◌∷◌, ◌++◌, map}
use mathlib.Core.Logic.{◌⊎◌, inl, inr, ⊎_elim}
use mathlib.Core.Path.{◌≡◌, refl, sym, subst, ◌∙◌}
use lib.Dec.{eqb, leb}
use lib.ListN.{length, get_or-eq_default}
use lib.Seq.{set_out}
use borrow.Author.Tests.{eq-eqb, ne_eqb, leb-true}
use Rattle.model.specs.Limits.{max_types, max_all_stages}
use Rattle.model.specs.Numbers.{InRange, at, sum_to}
use Rattle.model.specs.Questions.{Question, answer_of}
use Rattle.model.proofs.Decide.{decided, decides_eq, decides_le, holds}
use Rattle.model.proofs.Flat.{sum_up_to}
use Rattle.plan_text.specs.Lines.{Line}
use Rattle.plan_text.specs.Records.{no_record, record_in}
use Rattle.plan_text.specs.RecordTests.{Known, known_of, in_ranges}
use Rattle.plan_text.specs.ReaderInternals.{InKnown}
use Rattle.plan_text.specs.Draft.{Draft, put, index_named, entries_after, draft_after, held_in, of_section}
use Rattle.plan_text.specs.Reading.{refused, form_questions, within_total, record_questions, of_line, read_from}
use Rattle.plan_text.specs.TextQuestions.{is_accepted}
use Rattle.plan_text.specs.ReaderInternals.{form_answer, record_answer, line_answer, narrowed}
use Rattle.plan_text.specs.Meaning.{line}
use Rattle.plan_text.specs.declared.Record.{Record}
use Rattle.plan_text.specs.declared.TextAnswer.{TextAnswer}
use Rattle.plan_text.specs.declared.TextAnswer.TheVariants.{Accepted, OutOfRange, Repeated}
use Rattle.plan_text.specs.declared.Reading.{Reading}
use Rattle.plan_text.proofs.RecordLists.{put_same, put_other, sum_before}
use Rattle.plan_text.proofs.Sections.{of_section_lem}
use Rattle.plan_text.proofs.RecordQuestions.{decides_ranges}

pub true_or_false : (b : Bool) → (b ≡ true) ⊎ (b ≡ false)
true_or_false true = inl refl
true_or_false false = inr refl

-- a group of questions, and others after it
Refusals : List (Question TextAnswer) → Type 0
Refusals [] = Unit {0}
Refusals (q ∷ qs) = (is_accepted q.refusal ≡ false) × Refusals qs

module _ (n from to : ℕ) (next : Reading) where
  abbrev told : List (Question TextAnswer) → Reading
  told qs = answer_of next (map (of_line n from to) qs)

  group_met : (qs rest : List (Question TextAnswer)) → Refusals qs → is_accepted (answer_of Accepted qs) ≡ true → told (qs ++ rest) ≡ told rest
  unfolding Refusals
  group_met [] rest refuse e = refl
  group_met (q ∷ qs) rest refuse e = go q.met (group_met qs rest refuse.1) e
    where
      go : (b : Bool) → (is_accepted (answer_of Accepted qs) ≡ true → told (qs ++ rest) ≡ told rest)
          → is_accepted (cond b (answer_of Accepted qs) q.refusal) ≡ true → cond b (told (qs ++ rest)) (refused q.refusal n from to) ≡ told rest
      go true later e = later e
      go false later e = absurd (false≢true (sym refuse.0 ∙ e))

  group_refused : (qs rest : List (Question TextAnswer)) → is_accepted (answer_of Accepted qs) ≡ false
      → told (qs ++ rest) ≡ refused (answer_of Accepted qs) n from to
  group_refused [] rest e = absurd (false≢true (sym e))
  group_refused (q ∷ qs) rest e = go q.met (group_refused qs rest) e
    where
      go : (b : Bool) → (is_accepted (answer_of Accepted qs) ≡ false → told (qs ++ rest) ≡ refused (answer_of Accepted qs) n from to)
          → is_accepted (cond b (answer_of Accepted qs) q.refusal) ≡ false
          → cond b (told (qs ++ rest)) (refused q.refusal n from to) ≡ refused (cond b (answer_of Accepted qs) q.refusal) n from to
      go true later e = later e
      go false later e = refl

-- one line
module _ (n from : ℕ) (d : Draft) (l : Line) (ls : List Line) where
  abbrev to : ℕ
  to = from + length l.bytes

  abbrev after : Reading
  after = read_from (n + 1) (to + 1) (draft_after d (record_in l.bytes)) ls

  pub line_refused : is_accepted (line_answer d l) ≡ false → read_from n from d (l ∷ ls) ≡ refused (line_answer d l) (n + 1) from to
  line_refused e = group_refused (n + 1) from to after (form_questions d.section l ++ record_questions d (record_in l.bytes)) [] e

  pub line_read : is_accepted (line_answer d l) ≡ true → read_from n from d (l ∷ ls) ≡ after
  unfolding Refusals
  line_read e =
      group_met (n + 1) from to after (form_questions d.section l ++ record_questions d (record_in l.bytes)) []
      (refl, (refl, (refl, (refl, (refl, (refl, tt)))))) e

-- the answer to two groups: that of the first where it refuses, else that of the second
first_decides : (qs rest : List (Question TextAnswer)) → is_accepted (answer_of Accepted qs) ≡ false
    → answer_of Accepted (qs ++ rest) ≡ answer_of Accepted qs
first_decides [] rest e = absurd (false≢true (sym e))
first_decides (q ∷ qs) rest e = go q.met (first_decides qs rest) e
  where
    go : (b : Bool) → (is_accepted (answer_of Accepted qs) ≡ false → answer_of Accepted (qs ++ rest) ≡ answer_of Accepted qs)
        → is_accepted (cond b (answer_of Accepted qs) q.refusal) ≡ false
        → cond b (answer_of Accepted (qs ++ rest)) q.refusal ≡ cond b (answer_of Accepted qs) q.refusal
    go true later e = later e
    go false later e = refl

second_decides : (qs rest : List (Question TextAnswer)) → Refusals qs → is_accepted (answer_of Accepted qs) ≡ true
    → answer_of Accepted (qs ++ rest) ≡ answer_of Accepted rest
unfolding Refusals
second_decides [] rest refuse e = refl
second_decides (q ∷ qs) rest refuse e = go q.met (second_decides qs rest refuse.1) e
  where
    go : (b : Bool) → (is_accepted (answer_of Accepted qs) ≡ true → answer_of Accepted (qs ++ rest) ≡ answer_of Accepted rest)
        → is_accepted (cond b (answer_of Accepted qs) q.refusal) ≡ true → cond b (answer_of Accepted (qs ++ rest)) q.refusal ≡ answer_of Accepted rest
    go true later e = later e
    go false later e = absurd (false≢true (sym refuse.0 ∙ e))

-- so the answer to a line is that of its form where that refuses, else that of its record
module _ (d : Draft) (l : Line) where
  pub form_decides : is_accepted (form_answer d.section l) ≡ false → line_answer d l ≡ form_answer d.section l
  form_decides = first_decides (form_questions d.section l) (record_questions d (record_in l.bytes))

  pub record_decides : is_accepted (form_answer d.section l) ≡ true → line_answer d l ≡ record_answer d (record_in l.bytes)
  unfolding Refusals
  record_decides = second_decides (form_questions d.section l) (record_questions d (record_in l.bytes)) (refl, (refl, (refl, tt)))

-- no record is accepted
pub none_accepted : (d : Draft) → record_answer d no_record ≡ Accepted
unfolding in_ranges held_in
none_accepted d = refl

-- where the answer to a record is the acceptance, its numbers and the total are in range
pub record_met : (d : Draft) (r : Record) → is_accepted (record_answer d r) ≡ true → (in_ranges (known_of d.plan) r ≡ true) × (within_total d.plan.lengths r ≡ true)
record_met d r = go (in_ranges (known_of d.plan) r) (eqb (held_in d r) 0) (within_total d.plan.lengths r)
  where
    go : (a b c : Bool) → is_accepted (cond a (cond b (cond c Accepted OutOfRange) Repeated) OutOfRange) ≡ true → (a ≡ true) × (c ≡ true)
    go true true true e = (refl, refl)
    go true true false e = absurd (false≢true e)
    go true false c e = absurd (false≢true e)
    go false b c e = absurd (false≢true e)

-- numbers in range are what a plan's entries can hold
module _ (k : Known) (bytes : (i : ℕ) → at k.capacity i ≤ 255) (r : Record) (met : in_ranges k r ≡ true) where
  ranges_of : (n : ℕ) → r.section ≡ n → InKnown k (line n r.first r.second r.third r.fourth)
  ranges_of n e = subst (InKnown k) (of_section_lem n r e) (holds (decides_ranges k r) met)

  uncut : (x n : ℕ) → x < n → x % n ≡ x
  uncut x n h = mod-eq_of_lt h

  -- the new value is the same where the record is of section n, and else the old
  same_by : (n new old x : ℕ) → (r.section ≡ n → new ≡ x) → old ≡ x → of_section r n new old ≡ x
  same_by n new old x at_n else_so =
      ⊎_elim (λ (e : r.section ≡ n). rw (eq-eqb r.section n e) (at_n e))
      (λ (ne : ¬ (r.section ≡ n)). rw (ne_eqb r.section n ne) else_so)
      (decided (decides_eq r.section n))

  first_uncut : (narrowed r).first ≡ r.first
  first_uncut = same_by 1 _ _ r.first (λ e. uncut r.first 256 (omega (arith, (ranges_of 1 e).0))) refl

  second_uncut : (narrowed r).second ≡ r.second
  second_uncut =
      same_by 1 _ _ r.second (λ e. uncut r.second 256 (omega (arith, (ranges_of 1 e).1.0)))
      (same_by 2 _ _ r.second (λ e. uncut r.second 256 (omega (arith, (ranges_of 2 e).1.0)))
      (same_by 3 _ _ r.second (λ e. uncut r.second 256 (omega (arith, (ranges_of 3 e).1.0)))
      (same_by 5 _ _ r.second (λ e. uncut r.second 65536 (omega (arith, (ranges_of 5 e).1.0)))
      (same_by 7 _ _ r.second (λ e. uncut r.second 256 (omega (arith, (ranges_of 7 e).1.0))) refl))))

  third_uncut : (narrowed r).third ≡ r.third
  third_uncut = same_by 1 _ _ r.third (λ e. uncut r.third 256 (omega (arith, (ranges_of 1 e).1.1.0))) refl

  fourth_uncut : (narrowed r).fourth ≡ r.fourth
  fourth_uncut =
      same_by 4 _ _ r.fourth (λ e. uncut r.fourth 256 (omega (arith, (ranges_of 4 e).1.1.1.0, bytes r.third)))
      (same_by 6 _ _ r.fourth (λ e. uncut r.fourth 256 (omega (arith, (ranges_of 6 e).1.1.1.0))) refl)

  pub narrowed_same : narrowed r ≡ r
  narrowed_same =
      λ i. record { section = r.section; first = first_uncut i; second = second_uncut i; third = third_uncut i; fourth = fourth_uncut i }

-- the stages of all types stay within 128, so every stage that a record names has its slot
module _ (xs : List ℕ) (i v : ℕ) (low : 1 ≤ i) where
  put_most : (j : ℕ) → at (put xs i v) j ≤ at xs j + v
  put_most j =
      ⊎_elim
      (λ (e : j ≡ i).
      ⊎_elim (λ (h : i ≤ length xs). rw (e, put_same xs i v (low, h)) (omega arith))
      (λ (h : ¬ (i ≤ length xs)). rw (set_out xs (i - 1) v (omega (arith, low, h))) (omega arith))
      (decided (decides_le i (length xs))))
      (λ (ne : ¬ (j ≡ i)). rw (put_other xs i j v low ne) (omega arith))
      (decided (decides_eq j i))

  sum_most : (n : ℕ) → sum_to n (at (put xs i v)) ≤ sum_to n (at xs) + v
  sum_most zero = omega arith
  sum_most (suc n) =
      ⊎_elim (λ (e : suc n ≡ i). omega (arith, sum_before xs i v low n (omega (arith, e)), put_most (suc n)))
      (λ (ne : ¬ (suc n ≡ i)). omega (arith, sum_most n, put_other xs i (suc n) v low ne))
      (decided (decides_eq (suc n) i))

abbrev pub FewStages : List ℕ → Type 0
FewStages lengths = sum_to max_types (at lengths) ≤ max_all_stages

module _ (k : Known) (r : Record) (met : in_ranges k r ≡ true) where
  -- after a record
  pub few_after : FewStages k.lengths → within_total k.lengths r ≡ true → FewStages (entries_after 3 k.lengths r)
  few_after few within =
      ⊎_elim
      (λ (e : r.section ≡ 3).
      let ranges = subst (InKnown k) (of_section_lem 3 r e) (holds (decides_ranges k r) met) in
      let fits : leb (sum_to max_types (at k.lengths) + r.second) max_all_stages ≡ true = rw (eq-eqb r.section 3 e) at within in
      let most = sum_most k.lengths r.first r.second ranges.0.0 max_types in
      rw (eq-eqb r.section 3 e) (omega (arith, most, leb-true (sum_to max_types (at k.lengths) + r.second) max_all_stages fits)))
      (λ (ne : ¬ (r.section ≡ 3)). rw (ne_eqb r.section 3 ne) few)
      (decided (decides_eq r.section 3))

  -- capacities stay within a byte
  pub small_after : ((i : ℕ) → at k.capacity i ≤ 255) → (i : ℕ) → at (entries_after 2 k.capacity r) i ≤ 255
  small_after small i =
      ⊎_elim
      (λ (e : r.section ≡ 2).
      let ranges = subst (InKnown k) (of_section_lem 2 r e) (holds (decides_ranges k r) met) in
      rw (eq-eqb r.section 2 e)
      (⊎_elim
      (λ (same : i ≡ r.first).
      ⊎_elim (λ (h : r.first ≤ length k.capacity). rw (same, put_same k.capacity r.first r.second (ranges.0.0, h)) ranges.1.0.1)
      (λ (h : ¬ (r.first ≤ length k.capacity)). rw (set_out k.capacity (r.first - 1) r.second (omega (arith, ranges.0, h))) (small i))
      (decided (decides_le r.first (length k.capacity))))
      (λ (other : ¬ (i ≡ r.first)). rw (put_other k.capacity r.first i r.second ranges.0.0 other) (small i))
      (decided (decides_eq i r.first))))
      (λ (ne : ¬ (r.section ≡ 2)). rw (ne_eqb r.section 2 ne) (small i))
      (decided (decides_eq r.section 2))

  -- a stage that is in range
  stage_fits : length k.lengths ≡ max_types → FewStages k.lengths → (t j : ℕ) → InRange t k.types → InRange j (at k.lengths t)
      → sum_to (t - 1) (at k.lengths) + (j - 1) < max_all_stages
  stage_fits size few zero j a b = absurd (omega (arith, a))
  stage_fits size few (suc t) j a b =
      rw sub-one
      (⊎_elim (λ (h : suc t ≤ max_types). omega (arith, sum_up_to (at k.lengths) max_types (suc t) h, b, few))
      (λ (h : ¬ (suc t ≤ max_types)). absurd (omega (arith, b, get_or-eq_default k.lengths 0 {n = t} (omega (arith, size, h)))))
      (decided (decides_le (suc t) max_types)))

  pub index_within : length k.lengths ≡ max_types → FewStages k.lengths → index_named k.lengths r < max_all_stages
  unfolding index_named
  index_within size few = go (decided (decides_eq r.section 4)) (decided (decides_eq r.section 6))
    where
      named : (n : ℕ) → r.section ≡ n → index_named k.lengths (line n r.first r.second r.third r.fourth) < max_all_stages
          → index_named k.lengths r < max_all_stages
      named n e h = subst (λ q. index_named k.lengths q < max_all_stages) (sym (of_section_lem n r e)) h

      ranges : (n : ℕ) → r.section ≡ n → InKnown k (line n r.first r.second r.third r.fourth)
      ranges n e = subst (InKnown k) (of_section_lem n r e) (holds (decides_ranges k r) met)

      go : (r.section ≡ 4) ⊎ (¬ (r.section ≡ 4)) → (r.section ≡ 6) ⊎ (¬ (r.section ≡ 6)) → index_named k.lengths r < max_all_stages
      go (inl e) b = named 4 e (stage_fits size few r.first r.second (ranges 4 e).0 (ranges 4 e).1.0)
      go (inr a) (inl e) = named 6 e (stage_fits size few r.second r.third (ranges 6 e).1.0 (ranges 6 e).1.1.0)
      go (inr a) (inr b) = rw (ne_eqb r.section 4 a, ne_eqb r.section 6 b) (omega arith)
