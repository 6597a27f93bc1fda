-- Every row passed has its bound, and the loop returns at the first that has none.
use Rattle.std.proofs.Common.{◌≡◌, ℕ, true, leb}
use Rattle.model.specs.Numbers.{at, all_to}
use Rattle.read_draft.proofs.FramedDraft.all_bounded.Given as goal

abbrev pub invariant-loop-w : goal.invariant-loop-w
invariant-loop-w l = all_to l.w (λ (w : ℕ). leb 1 (at l.self.bounded w)) ≡ true
