-- The bytes of a line that are shown, and how long a line is.
use Rattle.std.proofs.Common.{ℕ, zero, suc, ◌≡◌, ◌+◌, ◌-◌, ◌≤◌, ◌<◌, List, [], ◌∷◌, ◌++◌, map, arith, refl, sym, ap, ◌∙◌, length, take, drop, get_or, length-append, length-take, length-drop, add-one, take-suc, Bor}
use mathlib.Core.List.{map-append}
use lib.ListN.{length-map}
use Rattle.plan_text.specs.LineReading.{span_from}
use Rattle.plan_text.specs.NthLine.{offset_after, nth_line}
use Rattle.plan_text.specs.TextQuestions.{text_number}
use Rattle.plan_text.specs.declared.TextAnswer.{TextAnswer}
use Rattle.moves_text.specs.Quoted.{quoted}
use Rattle.told_text.specs.Words.{words_of}
use Rattle.told_text.specs.Slips.{slip_words, plan_slip}
use Rattle.told_text.specs.PlanMessage.{visible, shown_after, line_head, message_with}
use Rattle.told_text.proofs.Short.{line_head_short, words_short, slip_short}

pub shown_next : (part : List ℕ) (i : ℕ) → i < length part
    → map visible (take (i + 1) part) ≡ map visible (take i part) ++ visible (get_or part i 0) ∷ []
shown_next part i h = rw (add-one, take-suc part i 0 h) (map-append visible (take i part) (get_or part i 0 ∷ []))

pub none_shown : (part : List ℕ) → length part ≡ 0 → quoted "\n" ≡ shown_after part
none_shown [] h = refl
none_shown (b ∷ bs) h = absurd (omega arith)

pub some_shown : (part : List ℕ) → (¬ (length part ≡ 0)) → quoted ": " ++ map visible part ++ quoted "\n" ≡ shown_after part
some_shown [] h = absurd (h refl)
some_shown (b ∷ bs) h = refl

pub shown_little_longer : (part : List ℕ) → length (shown_after part) ≤ length part + 3
shown_little_longer [] = omega arith
shown_little_longer (b ∷ bs) = omega (arith, length-append (map visible bs) (quoted "\n"), length-map bs visible)

-- a message is little longer than its text, for a line is no longer than that
line_fits : (text : List ℕ) (n : ℕ) → length (nth_line text n) ≤ length text
line_fits text zero = omega arith
line_fits text (suc k) =
    let at = offset_after text k in omega (arith, length-take ((span_from text at).end - at) (drop at text), length-drop at text)

pub message_fits : (line : ℕ) (answer : TextAnswer) (text : List ℕ) → line < 4294967296
    → length (message_with line answer (nth_line text line)) ≤ length text + 143
message_fits line answer text l =
    let part = nth_line text line in
    let number = text_number answer in
    let slip = plan_slip answer part in
    let said = line_head line ++ words_of number in
    omega (
      arith,
      length-append (said ++ slip_words slip) (shown_after part),
      length-append said (slip_words slip),
      length-append (line_head line) (words_of number),
      line_head_short line l,
      words_short number,
      slip_short slip,
      shown_little_longer part,
      line_fits text line,
    )
