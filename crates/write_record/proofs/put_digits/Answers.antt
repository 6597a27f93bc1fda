-- One to three digits are pushed one after the other; more are laid at once.
use Rattle.std.proofs.Common.{ℕ, ◌≡◌, ◌+◌, List, [], ◌∷◌, ◌++◌, arith, refl, sym, ap, ◌∙◌, length, take, set}
use Rattle.moves_text.specs.Decimals.{decimal}
use Rattle.write_record.proofs.Digits.{one_digit, two_digits, three_digits}
use Rattle.write_record.proofs.LineGrown.{pushed, pushed_two, pushed_three}
use Rattle.write_record.proofs.put_digits.Goals as goal

-- digits that are the number's, behind the first bytes
abbrev Behind : List ℕ → ℕ → ℕ → ℕ → List ℕ → Type 0
Behind l at n r next = (r ≡ at + length (decimal n)) × (take r next ≡ take at l ++ decimal n)

behind : (l : List ℕ) (at n k : ℕ) {bs : List ℕ} (next : List ℕ) → decimal n ≡ bs → length bs ≡ k → take (at + k) next ≡ take at l ++ bs → Behind l at n (at + k) next
behind l at n k next e size taken = (omega (arith, ap length e), taken ∙ ap (λ xs. take at l ++ xs) (sym e))

pub returns-then-n-lt10-clause-value : goal.returns-then-n-lt10-clause-value
returns-then-n-lt10-clause-value c =
    let a = c.args in
    let l = a.line.now in
    behind l a.at a.n 1 (set l a.at c.digit.result) (one_digit a.n c.if-n-lt10.true) refl
    (pushed l a.at _ (omega arith) refl ∙ ap (λ d. take a.at l ++ d ∷ []) c.digit.ensures)

pub returns-then-n-lt100-clause-value : goal.returns-then-n-lt100-clause-value
returns-then-n-lt100-clause-value c =
    let a = c.args in
    let l = a.line.now in
    let d = c.digit-then-n-lt100 in
    let e = c.digit-then-n-lt100-2 in
    behind l a.at a.n 2 (set (set l a.at d.result) (a.at + 1) e.result) (two_digits a.n c.if-n-lt10.false c.if-n-lt100.true) refl
    (pushed_two l a.at _ _ (omega arith) ∙ (λ i. take a.at l ++ d.ensures i ∷ e.ensures i ∷ []))

pub returns-then-n-lt1000-clause-value : goal.returns-then-n-lt1000-clause-value
returns-then-n-lt1000-clause-value c =
    let a = c.args in
    let l = a.line.now in
    let d = c.digit-then-n-lt1000 in
    let e = c.digit-then-n-lt1000-2 in
    let f = c.digit-then-n-lt1000-3 in
    behind l a.at a.n 3 (set (set (set l a.at d.result) (a.at + 1) e.result) (a.at + 2) f.result) (three_digits a.n c.if-n-lt100.false c.if-n-lt1000.true) refl
    (pushed_three l a.at _ _ _ (omega arith) ∙ (λ i. take a.at l ++ d.ensures i ∷ e.ensures i ∷ f.ensures i ∷ []))
