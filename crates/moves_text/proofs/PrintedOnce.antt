-- The bytes of printed replies name them: digits hold no tab and no LF, so a field ends where the first of these stands, and what
-- its digits say is its number.
use Prim.Native.Nat.{ℕ, ◌+◌, ◌≤◌}
use native.Mathlib.Omega.{arith}
use mathlib.Core.List.{List, [], ◌∷◌, ◌++◌, append_assoc}
use mathlib.Core.Path.{◌≡◌, refl, sym, ap, ◌∙◌}
use lib.ListN.{length, get_or, length-append}
use Rattle.model.specs.Numbers.{Each}
use Rattle.plan_text.specs.Lines.{line_end, tab}
use Rattle.plan_text.specs.Records.{Digit, value_on}
use Rattle.moves_text.specs.Decimals.{decimal, line_with}
use Rattle.moves_text.specs.OutputLines.{event_line}
use Rattle.moves_text.specs.Output.{Reply, printed_from}
use Rattle.moves_text.proofs.Decimals.{decimal_is}

first : List ℕ → ℕ
first bs = get_or bs 0 0

tail : List ℕ → List ℕ
tail [] = []
tail (b ∷ bs) = bs

-- two lists that begin with digits up to the same other byte
digits_same : (s : ℕ) → s ≤ 47 → (p q x y : List ℕ) → Each Digit p → Each Digit q → p ++ s ∷ x ≡ q ++ s ∷ y → (p ≡ q) × (x ≡ y)
unfolding first tail
digits_same s low [] [] x y dp dq e = (refl, ap tail e)
digits_same s low [] (b ∷ q) x y dp dq e = let same : s ≡ b = ap first e in absurd (omega (arith, dq.0))
digits_same s low (b ∷ p) [] x y dp dq e = let same : b ≡ s = ap first e in absurd (omega (arith, dp.0))
digits_same s low (b ∷ p) (c ∷ q) x y dp dq e =
    let here : b ≡ c = ap first e in
    let rest = digits_same s low p q x y dp.1 dq.1 (ap tail e) in (λ i. here i ∷ rest.0 i, rest.1)

-- a number and the byte after it, at the head of what is printed
field_same : (s : ℕ) → s ≤ 47 → (n m : ℕ) (k l x y : List ℕ) → decimal n ++ s ∷ k ++ x ≡ decimal m ++ s ∷ l ++ y → (n ≡ m) × (k ++ x ≡ l ++ y)
field_same s low n m k l x y e =
    let spelt = decimal_is n in
    let other = decimal_is m in
    let flat : decimal n ++ s ∷ (k ++ x) ≡ decimal m ++ s ∷ (l ++ y) = sym (append_assoc (decimal n) (s ∷ k) x) ∙ e ∙ append_assoc (decimal m) (s ∷ l) y in
    let same = digits_same s low (decimal n) (decimal m) (k ++ x) (l ++ y) spelt.1 other.1 flat in
    (sym spelt.2 ∙ ap (value_on 0) same.0 ∙ other.2, same.1)

line_same : (n : ℕ) (r q : Reply) (x y : List ℕ)
    → event_line n r.number r.place r.active ++ x ≡ event_line n q.number q.place q.active ++ y → (r ≡ q) × (x ≡ y)
line_same n r q x y e =
    let low : tab ≤ 47 = omega arith in
    let a = field_same tab low n n _ _ x y e in
    let b = field_same tab low r.number q.number _ _ x y a.1 in
    let c = field_same tab low r.place q.place _ _ x y b.1 in
    let d = field_same line_end (omega arith) r.active q.active [] [] x y c.1 in
    (λ i. record { number = b.0 i; place = c.0 i; active = d.0 i }, d.1)

-- a line is not empty
some_bytes : (n a b c : ℕ) (x : List ℕ) → 1 ≤ length (event_line n a b c ++ x)
some_bytes n a b c x =
    omega (arith, length-append (event_line n a b c) x, length-append (decimal n) (tab ∷ line_with (decimal a ∷ decimal b ∷ decimal c ∷ [])))

pub printed_once : (n : ℕ) (rs qs : List Reply) → printed_from n rs ≡ printed_from n qs → rs ≡ qs
printed_once n [] [] e = refl
printed_once n [] (q ∷ qs) e =
    absurd (omega (arith, ap length e, some_bytes n q.number q.place q.active (printed_from (n + 1) qs)))
printed_once n (r ∷ rs) [] e =
    absurd (omega (arith, ap length e, some_bytes n r.number r.place r.active (printed_from (n + 1) rs)))
printed_once n (r ∷ rs) (q ∷ qs) e =
    let same = line_same n r q (printed_from (n + 1) rs) (printed_from (n + 1) qs) e in
    let rest = printed_once (n + 1) rs qs same.1 in λ i. same.0 i ∷ rest i
