-- The records of one list put behind those of the lists before it, and how long their text is.
use Prim.Native.Nat.{ℕ, suc, ◌+◌}
use native.Mathlib.Numerals.{add-one}
use mathlib.Core.List.{List, [], ◌∷◌, append-nil}
use mathlib.Core.Path.{◌≡◌, sym, ap, ◌∙◌}
use Rattle.plan_text.specs.declared.Record.{Record}
use Rattle.canonical_text.specs.CanonicalText.{list_to, record_text, text_of}
use Rattle.canonical_text.proofs.Lists.{text_append}
use Rattle.write_lines.specs.Sink.{with_text}
use Rattle.write_lines.specs.declared.Sink.{Sink}
use Rattle.write_lines.proofs.Sinks.{text_then}

pub records_more : (f : ℕ → List Record) (i : ℕ) (s : Sink)
    → with_text (text_of (f (i + 1))) (with_text (text_of (list_to i f)) s) ≡ with_text (text_of (list_to (i + 1) f)) s
records_more f i s =
    text_then (text_of (list_to i f)) (text_of (f (i + 1))) s
    ∙ ap (λ bs. with_text bs s) (rw add-one (sym (text_append (list_to i f) (f (suc i)))))

-- the text of a list of one record
pub one_record : (r : Record) → record_text r ≡ text_of (r ∷ [])
one_record r = sym (append-nil (record_text r))
