-- The loop returns at the first row that has no bound.
use Rattle.std.proofs.Common.{◌≡◌, suc, add-one, arith, sym, ap, ◌∙◌, ℕ, leb}
use borrow.Author.Tests.{lt-leb}
use Rattle.model.specs.Numbers.{at}
use Rattle.model.proofs.Search.{all_fails}
use Rattle.read_draft.proofs.FramedDraft.all_bounded.Goals as goal

pub returns-then-entry_of-lt1 : goal.returns-then-entry_of-lt1
returns-then-entry_of-lt1 c =
    let bounded = c.args.self.now.bounded in
    let w = c.loop-w.w in
    let flag : c.entry_of.result ≡ at bounded (suc w) = c.entry_of.ensures ∙ ap (at bounded) (add-one w) in
    sym (all_fails (λ (w : ℕ). leb 1 (at bounded w)) c.args.self.now.frame.rows w (omega (arith, c.from-w-end.ensures)) (lt-leb 1 (at bounded (suc w)) (omega arith)))
