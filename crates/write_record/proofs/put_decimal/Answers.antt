-- The digits, at most ten, are put behind the first bytes.
use Rattle.std.proofs.Common.{ℕ, ◌+◌, ◌<◌, ◌≤◌, arith, refl, ap, ◌∙◌, length, take}
use Rattle.moves_text.specs.Decimals.{decimal}
use Rattle.moves_text.proofs.Decimals.{decimal_short}
use Rattle.write_lines.proofs.Sinks.{behind_whole, same_lent}
use Rattle.write_record.proofs.LineGrown.{laid_behind}
use Rattle.write_record.proofs.put_decimal.Goals as goal

few : (n : ℕ) → n < 4294967296 → length (decimal n) ≤ 10
few n h = decimal_short 10 n (omega arith) (omega arith)

pub returns-clause-value : goal.returns-clause-value
returns-clause-value c =
    let a = c.args in
    let text = decimal c.from.result in
    let short = few c.from.result (omega arith) in
    let put = behind_whole text _ _ c.put_decimal.ensures (omega (arith, short)) in
    let lent = same_lent text _ _ c.put_decimal.ensures in
    let whole =
    ap (λ k. take k c.put_decimal.new.self.buffer.now) put.0
    ∙ laid_behind a.line.now a.at text {next = c.put_decimal.new.self.buffer.now} (omega (arith, short)) refl put.1 in
    (put.0 ∙ ap (λ n. a.at + length (decimal n)) c.from.ensures, grind arith)

pub returns-clause-upper_bound : goal.returns-clause-upper_bound
returns-clause-upper_bound c =
    let text = decimal c.from.result in
    let short = few c.from.result (omega arith) in
    let put = behind_whole text _ _ c.put_decimal.ensures (omega (arith, short)) in
    omega (arith, put.0, short)
