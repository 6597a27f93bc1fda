-- The n-th line is what the reader gives after n - 1 others.
use Rattle.std.proofs.Common.{◌≡◌, ℕ, suc, ◌-◌, subst, arith}
use Rattle.plan_text.specs.NthLine.{IsNth}
use Rattle.read_nth.proofs.Onward.{nth_read, nth_none}
use Rattle.read_nth.proofs.nth_line.Goals as goal

pub returns-in-Some : goal.returns-in-Some
returns-in-Some c =
    let n : suc (c.args.n - 1) ≡ c.args.n = omega arith in
    subst (λ (m : ℕ). IsNth c.args.text m c.in-Some.line.bytes) n (nth_read c.args.text _ c.in-Some.line _ (rw c.new-reader.ensures at c.in-Some.ensures.ran))

pub returns-in-None : goal.returns-in-None
returns-in-None c =
    let n : suc (c.args.n - 1) ≡ c.args.n = omega arith in
    subst (λ (m : ℕ). IsNth c.args.text m c.part_of-in-None.result) n
    (nth_none c.args.text _ _ _ (rw c.new-reader.ensures at c.in-None.ensures.ran) c.part_of-in-None.ensures)
