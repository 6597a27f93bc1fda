-- While a text is read: what is left to read from here, with the draft at hand, is what was to be read at the start. A line's
-- refusal is then the text's, and where its questions are met the reading goes on after it.
use Prim.Native.Nat.{ℕ, zero, suc, ◌+◌, ◌-◌, ◌≤◌, ◌<◌}
use native.Mathlib.Omega.{arith}
use mathlib.Core.Bool.{Bool, true, false, cond, false≢true}
use mathlib.Core.Logic.{⊎_elim}
use mathlib.Core.List.{List, [], ◌∷◌}
use mathlib.Core.Path.{◌≡◌, refl, sym, ap, subst, ◌∙◌}
use lib.Dec.{ltb}
use lib.ListN.{length, drop, replicate, length-set, length-drop}
use Rattle.std.proofs.lemmas.List.{length-take}
use borrow.Author.Tests.{ltb-false}
use Rattle.std.specs.Prelude.{Some, None, Ok, Err}
use Rattle.model.specs.Limits.{max_resources, max_types, max_all_stages}
use Rattle.model.specs.Numbers.{at}
use Rattle.model.specs.Plan.{empty_plan}
use Rattle.model.proofs.Lists.{replicated}
use Rattle.plan_text.specs.Lines.{Line, lines_of}
use Rattle.plan_text.specs.LineReading.{first_span, span_from, line_from}
use Rattle.plan_text.specs.Records.{record_in}
use Rattle.plan_text.specs.RecordTests.{known_of}
use Rattle.plan_text.specs.Draft.{Draft, empty_draft, draft_after}
use Rattle.plan_text.specs.Reading.{refused, read_from}
use Rattle.plan_text.specs.TextQuestions.{is_accepted}
use Rattle.plan_text.specs.ReaderInternals.{line_answer, form_answer, narrowed}
use Rattle.plan_text.specs.declared.TextAnswer.{TextAnswer}
use Rattle.plan_text.proofs.RecordLists.{entries_length}
use Rattle.plan_text.proofs.LineByLine.{no_line}
use Rattle.plan_text.proofs.LineReading.{span_there, next_further, over_told, left_told}
use Rattle.plan_text.proofs.LineReading as reading
use Rattle.plan_text.proofs.ReaderSteps.{FewStages, few_after, small_after, line_refused, line_read, form_decides, record_decides, record_met, narrowed_same, true_or_false}
use Rattle.read_lines.specs.LineReads.{Read, Reads}
use Rattle.read_lines.specs.declared.LineReader.{LineReader}
use Rattle.read_lines.specs.declared.TextLine.{TextLine}
use Rattle.read_lines.proofs.ToEnd.{next_within}
use Rattle.read_plan.proofs.Line.{Handed, refusal_told, acceptance_told}

pub record ReadingOn (text : List ℕ) (d : Draft) (line from : ℕ) : Type 0 where
  pub left : read_from 0 0 empty_draft (lines_of text) ≡ read_from line from d (lines_of (drop from text))
  pub counted : line ≤ from
  pub within : from ≤ length text
  pub few : FewStages d.plan.lengths
  pub small : (i : ℕ) → at d.plan.capacity i ≤ 255
  pub types : length d.plan.lengths ≡ max_types
  pub stages : length d.plan.stages ≡ max_all_stages

pub reading_start : (text : List ℕ) → ReadingOn text empty_draft 0 0
unfolding empty_draft empty_plan
reading_start text =
    record { left = refl; counted = omega arith; within = omega arith; few = omega arith; small = none; types = refl; stages = refl }
  where
    none : (i : ℕ) → at (replicate max_resources 0) i ≤ 255
    none zero = omega arith
    none (suc i) = omega (arith, replicated {A = ℕ} max_resources i 0)

module _ (text : List ℕ) (d : Draft) (line from : ℕ) (going : ReadingOn text d line from) where
  -- after the last line
  pub read_out : length text ≤ from → read_from line 0 d [] ≡ read_from 0 0 empty_draft (lines_of text)
  read_out h = sym (going.left ∙ ap (read_from line from d) (no_line text from h))

  -- the line that begins here
  module _ (there : from < length text) where
    abbrev l : Line
    l = line_from text from

    abbrev to : ℕ
    to = from + length l.bytes

    abbrev next : ℕ
    next = (span_from text from).next

    here : read_from 0 0 empty_draft (lines_of text) ≡ read_from line from d (l ∷ lines_of (drop next text))
    here = going.left ∙ ap (read_from line from d) (reading.line_read text from _ refl there)

    pub refuses : is_accepted (line_answer d l) ≡ false → refused (line_answer d l) (line + 1) from to ≡ read_from 0 0 empty_draft (lines_of text)
    refuses e = sym (here ∙ line_refused line from d l (lines_of (drop next text)) e)

    next_is : next ≡ cond l.ended (to + 1) to
    unfolding span_from
    next_is = ap (λ (ls : List Line). (first_span from ls).next) (reading.line_read text from _ refl there)

    out : (span_from text from).ended ≡ false → length text ≤ (span_from text from).next
    out = rw (span_there text from _ refl there) (step _)
      where
        step : (end : ℕ) → ltb end (length text) ≡ false → length text ≤ cond (ltb end (length text)) (end + 1) end
        step end e = rw e (ltb-false end (length text) e)

    -- where the line has no LF no other follows, so it does not matter where that would begin
    behind : (e : Draft) → read_from (line + 1) (to + 1) e (lines_of (drop next text)) ≡ read_from (line + 1) next e (lines_of (drop next text))
    behind e = go l.ended refl
      where
        go : (b : Bool) → l.ended ≡ b → read_from (line + 1) (to + 1) e (lines_of (drop next text)) ≡ read_from (line + 1) next e (lines_of (drop next text))
        go true k = ap (λ (i : ℕ). read_from (line + 1) i e (lines_of (drop next text))) (sym (next_is ∙ ap (λ (b : Bool). cond b (to + 1) to) k))
        go false k = rw (no_line text next (out k)) refl

    pub goes_on : is_accepted (line_answer d l) ≡ true → (after : Draft) → after ≡ draft_after d (narrowed (record_in l.bytes)) → ReadingOn text after (line + 1) next
    unfolding draft_after
    goes_on e after made =
        let r = record_in l.bytes in
        let formed : is_accepted (form_answer d.section l) ≡ true =
        ⊎_elim (λ (k : is_accepted (form_answer d.section l) ≡ true). k)
        (λ (k : is_accepted (form_answer d.section l) ≡ false). absurd (false≢true (sym k ∙ sym (ap is_accepted (form_decides d l k)) ∙ e)))
        (true_or_false (is_accepted (form_answer d.section l))) in
        let met = record_met d r (sym (ap is_accepted (record_decides d l formed)) ∙ e) in
        let same : after ≡ draft_after d r = made ∙ ap (draft_after d) (narrowed_same (known_of d.plan) going.small r met.0) in
        let on : ReadingOn text (draft_after d r) (line + 1) next =
        record {
          left = here ∙ line_read line from d l (lines_of (drop next text)) e ∙ behind (draft_after d r);
          counted = omega (arith, going.counted, next_further text from _ refl there);
          within = next_within text from there;
          few = few_after (known_of d.plan) r met.0 going.few met.1;
          small = small_after (known_of d.plan) r met.0 going.small;
          types = entries_length 3 d.plan.lengths r ∙ going.types;
          stages = length-set d.plan.stages _ _ ∙ going.stages;
        } in
        subst (λ (x : Draft). ReadingOn text x (line + 1) next) (sym same) on

-- a line that the reader has read
module _ (r after : LineReader) (t : TextLine) (read : Reads r (Some t) after) (d : Draft) (line : ℕ) (going : ReadingOn r.text.now d line r.at) where
  abbrev pub said : Line
  said = record { bytes = t.bytes.now; ended = t.ended }

  told : said ≡ line_from r.text.now r.at
  told = ap (λ (x : Read). x.line) read.said

  there : r.at < length r.text.now
  there = left_told r.text.now r.at (sym (ap (λ (x : Read). x.over) read.said))

  pub still : after.text.now ≡ r.text.now
  still = ap (λ (x : LineReader). x.text.now) read.moved

  pub short : line + 1 ≤ length r.text.now
  short = omega (arith, going.counted, there)

  pub ends_within : r.at + length t.bytes.now ≤ length r.text.now
  ends_within =
      let text = r.text.now in
      omega (
        arith,
        there,
        ap (λ (x : Line). length x.bytes) told,
        length-take ((span_from text r.at).end - r.at) (drop r.at text),
        length-drop r.at text,
      )

  pub line_refuses : (a : TextAnswer) → Handed (Err a) (line_answer d said)
      → refused a (line + 1) r.at (r.at + length t.bytes.now) ≡ read_from 0 0 empty_draft (lines_of r.text.now)
  line_refuses a e =
      let k = refusal_told (tt {0}) (line_answer d said) a e in
      ap (λ (x : TextAnswer). refused x (line + 1) r.at (r.at + length t.bytes.now)) (k.0 ∙ ap (line_answer d) told)
      ∙ ap (λ (x : Line). refused (line_answer d (line_from r.text.now r.at)) (line + 1) r.at (r.at + length x.bytes)) told
      ∙ refuses r.text.now d line r.at going there (sym (ap (λ (x : Line). is_accepted (line_answer d x)) told) ∙ k.1)

  pub line_goes_on : Handed (Ok (tt {0})) (line_answer d said) → (next : Draft) → next ≡ draft_after d (narrowed (record_in t.bytes.now))
      → ReadingOn after.text.now next (line + 1) after.at
  line_goes_on e next made =
      let on =
      goes_on r.text.now d line r.at going there
      (sym (ap (λ (x : Line). is_accepted (line_answer d x)) told) ∙ (acceptance_told (tt {0}) (line_answer d said) (tt {0}) e).1)
      next (made ∙ ap (λ (x : Line). draft_after d (narrowed (record_in x.bytes))) told) in
      subst (λ (x : LineReader). ReadingOn x.text.now next (line + 1) x.at) (sym read.moved) on

-- where none is read
pub text_out : (r after : LineReader) → Reads r None after → length r.text.now ≤ r.at
text_out r after read = over_told r.text.now r.at (sym (ap (λ (x : Read). x.over) read.said))
