-- The 64 bytes of a stage after a record; bytes of another length are no stage's, and stay as they are.
use Rattle.std.specs.Prelude.{ℕ, cond, List, eqb, length}
use Rattle.plan_bytes.specs.Over.{stage_in, stage_size, stage_bytes}
use Rattle.plan_text.specs.Draft.{stage_after_record}
use Rattle.plan_text.specs.declared.Record.{Record}

abbrev pub bytes_after : List ℕ → Record → List ℕ
bytes_after bytes r =
    cond (eqb (length bytes) stage_size) (stage_bytes (stage_after_record (stage_in bytes) r)) bytes
