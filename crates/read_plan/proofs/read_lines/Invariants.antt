-- What is left to read, with the draft at hand, is what was to be read at the start.
use Rattle.std.proofs.Common.{◌≡◌}
use Rattle.read_draft.specs.Drafted.{drafted}
use Rattle.read_plan.proofs.Going.{ReadingOn}
use Rattle.read_plan.proofs.read_lines.Given as goal

abbrev pub invariant-loop-next : goal.invariant-loop-next
invariant-loop-next l =
    record {
      text : l.reader.text.now ≡ l.text;
      stands : l.reader.at ≡ l.at;
      going : ReadingOn l.reader.text.now (drafted l.draft) l.line l.reader.at;
    }
