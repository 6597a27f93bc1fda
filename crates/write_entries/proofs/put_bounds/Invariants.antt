-- Each turn puts the record of one row more.
use Rattle.std.proofs.Common.{ℕ, ◌*◌, ◌≡◌, ◌≤◌, List, [], ◌∷◌, length}
use Rattle.model.specs.Numbers.{at}
use Rattle.plan_text.specs.Meaning.{B}
use Rattle.plan_text.specs.declared.Record.{Record}
use Rattle.canonical_text.specs.CanonicalText.{list_to, text_of}
use Rattle.write_lines.specs.Sink.{with_text}
use Rattle.write_entries.proofs.put_bounds.Given as goal

abbrev pub own : List ℕ → ℕ → List Record
own bounds w = B w (at bounds w) ∷ []

abbrev pub invariant-loop-i : goal.invariant-loop-i
invariant-loop-i l =
    record {
      put : l.out ≡ with_text (text_of (list_to l.i (own l.bounds))) l.fn.out;
      short : length (text_of (list_to l.i (own l.bounds))) ≤ 46 * l.i;
    }
