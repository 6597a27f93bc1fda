-- Each piece goes behind those before it; the tactics give up at the length of the first.
use Rattle.std.proofs.Common.{List, ℕ, ◌≡◌, ◌++◌, ap, ◌∙◌}
use Rattle.moves_text.specs.Quoted.{quoted}
use Rattle.told_text.specs.Words.{words_of}
use Rattle.told_text.specs.PlanMessage.{check_place}
use Rattle.write_lines.specs.Sink.{with_text}
use Rattle.write_lines.specs.declared.Sink.{Sink}
use Rattle.write_lines.proofs.Sinks.{text_then}
use Rattle.tell_check.proofs.put_check_message.Goals as goal

behind : (done new : List ℕ) (s : Sink) {t u : Sink} → t ≡ with_text done s → u ≡ with_text new t → u ≡ with_text (done ++ new) s
behind done new s e f = f ∙ ap (with_text new) e ∙ text_then done new s

pub returns : goal.returns
returns c =
    let a = c.args in
    let s = a.out.now in
    let said = quoted "the cell may deadlock although moves are admitted: " in
    let meant = behind said (words_of a.number) s c.put.ensures c.put_words.ensures in
    let placed = behind _ (check_place a.number a.first a.second) s meant c.put_check_place.ensures in
    behind _ (quoted "\n") s placed c.put-2.ensures
