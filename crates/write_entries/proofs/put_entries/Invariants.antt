-- Each turn puts the record of one entry more.
use Rattle.std.proofs.Common.{ℕ, ◌*◌, ◌≡◌, ◌≤◌, List, length}
use Rattle.model.specs.Numbers.{at}
use Rattle.plan_text.specs.declared.Record.{Record}
use Rattle.canonical_text.specs.CanonicalText.{list_to, valued, text_of}
use Rattle.canonical_text.specs.WriterInternals.{entry_of}
use Rattle.write_lines.specs.Sink.{with_text}
use Rattle.write_entries.proofs.put_entries.Given as goal

-- the record of an entry, or none
abbrev pub own : Record → List ℕ → ℕ → List Record
own like xs i = valued (at xs i) (entry_of like i)

abbrev pub invariant-loop-i : goal.invariant-loop-i
invariant-loop-i l =
    record {
      put : l.out ≡ with_text (text_of (list_to l.i (own l.fn.like l.xs))) l.fn.out;
      short : length (text_of (list_to l.i (own l.fn.like l.xs))) ≤ 46 * l.i;
    }
