-- A turn reads the next line and replies to it: what the read puts is what was put so far and, behind it, what the lines that are left put.
use Rattle.std.proofs.Common.{ℕ, ◌≡◌, ◌+◌, ◌≤◌, ◌<◌, ◌*◌, List, [], ◌∷◌, ◌++◌, Bool, true, false, refl, sym, ap, subst, ◌∙◌, length, arith, inl, inr}
use Rattle.std.specs.Prelude.{Some, None}
use mathlib.Core.Bool.{false≢true}
use mathlib.Core.Logic.{⊎_elim}
use Rattle.model.specs.declared.Plan.{Plan}
use Rattle.model.proofs.Decide.{decided, decides_lt}
use Rattle.plan_text.specs.Lines.{Line}
use Rattle.plan_text.specs.LineReading.{span_from, line_from}
use Rattle.plan_text.specs.declared.LineSpan.{LineSpan}
use Rattle.plan_text.proofs.LineReading.{span_over, over_told}
use Rattle.read_lines.specs.LineReads.{Read, Reads}
use Rattle.read_lines.specs.declared.LineReader.{LineReader}
use Rattle.read_lines.specs.declared.TextLine.{TextLine}
use Rattle.write_lines.specs.Sink.{with_text}
use Rattle.write_lines.specs.declared.Sink.{Sink}
use Rattle.write_lines.proofs.Sinks.{text_then, nothing_put}
use Rattle.desk_text.specs.Desk.{desk_after, out_of, told_of, desk_after_read, out_of_read, told_of_read}
use Rattle.desk_text.specs.declared.Desk.{Desk}
use Rattle.desk_text.proofs.ReadSteps.{out_left, told_left, Going, going_start, out_next, told_next, goes_on, all_answered, nothing_left}

module _ (p : Plan) (start : Desk) (read : List ℕ) (lentOut lentWords : Sink) where
  pub record Answered (d : Desk) (r : LineReader) (out words : Sink) : Type 0 where
    pub reads : r.text.now ≡ read
    pub going : Going p start read d r.at
    pub answered : with_text (out_of_read p start read) lentOut ≡ with_text (out_left p start read d r.at) out
    pub told : with_text (told_of_read p start read) lentWords ≡ with_text (told_left p start read d r.at) words

  pub none_answered : (r : LineReader) → r.text.now ≡ read → r.at ≡ 0 → Answered start r lentOut lentWords
  unfolding out_of_read told_of_read
  none_answered r reads first =
      record {
        reads = reads;
        going = subst (λ n. Going p start read start n) (sym first) (going_start p start read);
        answered = ap (λ n. with_text (out_left p start read start n) lentOut) (sym first);
        told = ap (λ n. with_text (told_left p start read start n) lentWords) (sym first);
      }

  module _ (d : Desk) (r : LineReader) (out words : Sink) (a : Answered d r out words) where
    module _ (l : TextLine) (after : LineReader) (step : Reads r (Some l) after) where
      over : false ≡ (span_from read r.at).over
      over = ap (λ (x : Read). x.over) step.said ∙ ap (λ t. (span_from t r.at).over) a.reads

      there : r.at < length read
      there =
          ⊎_elim (λ (h : r.at < length read). h)
          (λ (h : ¬ (r.at < length read)). absurd (false≢true (over ∙ ap (λ (s : LineSpan). s.over) (span_over read r.at (omega arith)))))
          (decided (decides_lt r.at (length read)))

      at_next : after.at ≡ (span_from read r.at).next
      at_next = ap (λ (x : LineReader). x.at) step.moved ∙ ap (λ t. (span_from t r.at).next) a.reads

      abbrev line : Bool → Line
      line ended = record { bytes = l.bytes.now; ended = ended }

      line_is : (ended : Bool) → l.ended ≡ ended → line ended ≡ line_from read r.at
      line_is ended e = ap line (sym e) ∙ ap (λ (x : Read). x.line) step.said ∙ ap (λ t. line_from t r.at) a.reads

      pub turn : (ended : Bool) → l.ended ≡ ended → (next : Desk) (nextOut nextWords : Sink) → next ≡ desk_after p d (line ended)
          → nextOut ≡ with_text (out_of p d (line ended)) out → nextWords ≡ with_text (told_of p d (line ended)) words
          → length (out_of p d (line ended)) ≤ 84 → length (told_of p d (line ended)) ≤ 192 → Answered next after nextOut nextWords
      turn ended e next nextOut nextWords same put said few short =
          let here = line_from read r.at in
          let is : line ended ≡ here = line_is ended e in
          let next_is : next ≡ desk_after p d here = same ∙ ap (desk_after p d) is in
          let out_is : nextOut ≡ with_text (out_of p d here) out = put ∙ ap (λ x. with_text (out_of p d x) out) is in
          let words_is : nextWords ≡ with_text (told_of p d here) words = said ∙ ap (λ x. with_text (told_of p d x) words) is in
          let on =
          goes_on p start read d r.at there a.going (subst (λ x. length (out_of p d x) ≤ 84) is few) (subst (λ x. length (told_of p d x) ≤ 192) is short) in
          record {
            reads = ap (λ (x : LineReader). x.text.now) step.moved ∙ a.reads;
            going = subst (λ x. Going p start read x after.at) (sym next_is) (subst (λ n. Going p start read (desk_after p d here) n) (sym at_next) on);
            answered =
                a.answered
                ∙ ap (λ bs. with_text bs out) (out_next p start read d r.at there)
                ∙ sym (text_then (out_of p d here) (out_left p start read (desk_after p d here) (span_from read r.at).next) out)
                ∙ (λ i. with_text (out_left p start read (sym next_is i) (sym at_next i)) (sym out_is i));
            told =
                a.told
                ∙ ap (λ bs. with_text bs words) (told_next p start read d r.at there)
                ∙ sym (text_then (told_of p d here) (told_left p start read (desk_after p d here) (span_from read r.at).next) words)
                ∙ (λ i. with_text (told_left p start read (sym next_is i) (sym at_next i)) (sym words_is i));
          }

    module _ (after : LineReader) (step : Reads r None after) where
      ends : length read ≤ r.at
      ends = over_told read r.at (sym (ap (λ (x : Read). x.over) step.said ∙ ap (λ t. (span_from t r.at).over) a.reads))

      pub all_after : d ≡ desk_after_read p start read
      all_after = all_answered p start read d r.at a.going ends

      pub all_put : out ≡ with_text (out_of_read p start read) lentOut
      all_put = sym (nothing_put out) ∙ ap (λ bs. with_text bs out) (sym (nothing_left p start read d r.at ends).0) ∙ sym a.answered

      pub all_said : words ≡ with_text (told_of_read p start read) lentWords
      all_said = sym (nothing_put words) ∙ ap (λ bs. with_text bs words) (sym (nothing_left p start read d r.at ends).1) ∙ sym a.told

      pub all_short : (length (out_of_read p start read) ≤ 84 * length read) × (length (told_of_read p start read) ≤ 192 * length read)
      all_short =
          let none = nothing_left p start read d r.at ends in (
            omega (arith, a.going.out_short, a.going.within, ap length none.0),
            omega (arith, a.going.told_short, a.going.within, ap length none.1),
          )
