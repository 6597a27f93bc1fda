-- A line grows byte by byte behind its first ones.
use Prim.Native.Nat.{ℕ, ◌+◌, ◌≤◌, ◌<◌}
use native.Mathlib.Numerals.{add-one}
use native.Mathlib.Omega.{arith}
use mathlib.Core.List.{List, [], ◌∷◌, ◌++◌, append_assoc}
use mathlib.Core.Path.{◌≡◌, refl, ap, ◌∙◌}
use lib.ListN.{length, take, drop, set, length-set, length-append, take-append-drop}
use lib.Seq.{take-suc-set, take_all, length-take-le, take_at}
use Rattle.moves_text.specs.Buffer.{overlaid_at}

-- one byte more
pub pushed : (l : List ℕ) (i a : ℕ) {done : List ℕ} → i < length l → take i l ≡ done → take (i + 1) (set l i a) ≡ done ++ a ∷ []
pushed l i a h e = rw (add-one, take-suc-set l i a h, e) refl

pub pushed_two : (l : List ℕ) (i a b : ℕ) → i + 1 < length l → take (i + 2) (set (set l i a) (i + 1) b) ≡ take i l ++ a ∷ b ∷ []
pushed_two l i a b h =
    let e : i + 2 ≡ i + 1 + 1 = omega arith in
    rw e (pushed (set l i a) (i + 1) b (omega (arith, length-set l i a)) (pushed l i a (omega arith) refl) ∙ append_assoc (take i l) (a ∷ []) (b ∷ []))

pub pushed_three : (l : List ℕ) (i a b c : ℕ) → i + 2 < length l → take (i + 3) (set (set (set l i a) (i + 1) b) (i + 2) c) ≡ take i l ++ a ∷ b ∷ c ∷ []
pushed_three l i a b c h =
    let e : i + 3 ≡ i + 2 + 1 = omega arith in
    rw e
    (pushed (set (set l i a) (i + 1) b) (i + 2) c (omega (arith, length-set (set l i a) (i + 1) b, length-set l i a)) (pushed_two l i a b (omega arith))
    ∙ append_assoc (take i l) (a ∷ b ∷ []) (c ∷ []))

-- a text laid over what is behind the first bytes, where there is room for it
pub laid_behind : (l : List ℕ) (i : ℕ) (text : List ℕ) {k : ℕ} {next : List ℕ} → i + length text ≤ length l → k ≡ length text → next ≡ overlaid_at i text l
    → take (i + k) next ≡ take i l ++ text
laid_behind l i text {k} h size laid =
    let long : length (take i l) ≡ i = length-take-le i l (omega arith) in
    let room : length text ≤ length (drop i l) = omega (arith, ap length (take-append-drop i l), length-append (take i l) (drop i l)) in
    let e : length (take i l ++ text) ≡ i + k = omega (arith, length-append (take i l) text) in
    rw (laid, take_all (length (drop i l)) text room, ← append_assoc (take i l) text (drop (length text) (drop i l)))
    (take_at (take i l ++ text) (drop (length text) (drop i l)) (i + k) e)
