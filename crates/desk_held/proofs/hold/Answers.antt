-- What fits is laid behind the bytes that are held; the count is cut to one more than there is room for.
use Rattle.std.proofs.Common.{◌+◌, ◌≡◌, min, length, arith}
use Rattle.desk_text.specs.HeldLine.{held_with}
use Rattle.desk_held.proofs.hold.Goals as goal

pub returns : goal.returns
unfolding held_with
returns c =
    let a = c.args in
    let count : c.min-3.result ≡ min (a.held.count + length a.more.now) 65 = omega arith in
    λ i. record { bytes = c.put_text.ensures.1 i; count = count i }
