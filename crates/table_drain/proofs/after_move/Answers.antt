-- A job at its last stage goes and another moves on, as its move says.
use Rattle.std.proofs.Common.{ℕ, ◌≡◌, ◌≢◌, List, get_or, sym, ap, ◌∙◌}
use Rattle.model.specs.Numbers.{at}
use Rattle.model.specs.Plan.{length_of}
use Rattle.model.specs.Jobs.{no_job}
use Rattle.internals.proofs.EarliestMove.{last_leads, next_leads}
use Rattle.table_drain.proofs.after_move.Goals as goal

pub returns-then-length_of-j : goal.returns-then-length_of-j
returns-then-length_of-j c p sound agrees same =
    let a = c.args in
    let j = get_or a.t.jobs a.at no_job in
    let length' = ap (λ (ls : List ℕ). at ls j.kind) same in
    let last : length_of p j.kind ≡ j.stage = length' ∙ sym c.length_of.ensures ∙ c.if-length_of-j.true in
    c.without_job.ensures ∙ last_leads p a.t sound agrees a.at c.requires.0 last

pub returns : goal.returns
returns c p sound agrees same =
    let a = c.args in
    let j = get_or a.t.jobs a.at no_job in
    let length' = ap (λ (ls : List ℕ). at ls j.kind) (sym same) in
    let other : length_of p j.kind ≢ j.stage = λ h. c.if-length_of-j.false (c.length_of.ensures ∙ length' ∙ h) in
    c.with_replaced.ensures ∙ next_leads p a.t sound agrees a.at c.requires.0 other
