-- The two ends are those of the reading, and each fits 32 bits.
use Rattle.std.proofs.Common.{◌+◌, ◌*◌, ap, arith}
use Rattle.plan_text.specs.declared.Reading.{Reading}
use Rattle.cell_layout.specs.HostAnswers.{shown_answer}
use Rattle.cell_layout.proofs.ShownFits.{shown_within}
use Rattle.rilthoss.proofs.rilthoss_shown.Goals as goal

pub overflow_mul-result : goal.overflow_mul-result
overflow_mul-result c =
    let within = shown_within c.args.text.now in
    omega (arith, within.to, ap (λ (a : Reading). a.to) c.read-reading.ensures)

pub overflow_add-result : goal.overflow_add-result
overflow_add-result c =
    let within = shown_within c.args.text.now in
    omega (arith, within.from, ap (λ (a : Reading). a.from) c.read-reading.ensures, within.to, ap (λ (a : Reading). a.to) c.read-reading.ensures)

pub returns : goal.returns
unfolding shown_answer
returns c = ap (λ (a : Reading). a.from + 4294967296 * a.to) c.read-reading.ensures
