-- An S puts an entry into the first part of the bytes, an A into the second, and another record into neither.
use Rattle.std.proofs.Common.{rules, ◌%◌, ◌++◌, take, drop, sym, ap, refl, ◌∙◌}
use Rattle.plan_text.specs.Meaning.{line}
use Rattle.plan_text.specs.ReaderInternals.{narrowed}
use Rattle.read_draft.specs.StageBytes.{bytes_after}
use Rattle.read_draft.proofs.StageBytes.{demand_put, weight_put, nothing_put}
use Rattle.read_draft.proofs.Written.{narrowed_at}
use Rattle.read_draft.proofs.write_stage.Goals as goal

pub returns-in-4 : goal.returns-in-4
returns-in-4 c =
    let a = c.args in
    let r = a.rec in
    ap (λ xs. xs ++ drop 32 a.stage.now) c.put_entry.ensures
    ∙ demand_put a.stage.now (line 4 r.first r.second r.third (r.fourth % 256)) c.if-stage-ne64.false refl
    ∙ ap (bytes_after a.stage.now) (sym (narrowed_at 4 r c.in-4.is))

pub returns-in-6 : goal.returns-in-6
returns-in-6 c =
    let a = c.args in
    let r = a.rec in
    ap (λ xs. take 32 a.stage.now ++ (xs ++ drop 32 (drop 32 a.stage.now))) c.put_entry-in-6.ensures
    ∙ weight_put a.stage.now (line 6 r.first r.second r.third (r.fourth % 256)) c.if-stage-ne64.false refl
    ∙ ap (bytes_after a.stage.now) (sym (narrowed_at 6 r c.in-6.is))

pub returns-in_default : goal.returns-in_default
returns-in_default c = let a = c.args in nothing_put a.stage.now (narrowed a.rec) c.if-stage-ne64.false (search rules) (search rules)
