-- Closing a gap in a list: once the entries behind it are copied one place down, the last place is free for what stands there from then on.
use Prim.Native.Nat.{ℕ, suc, ◌+◌, ◌-◌, ◌<◌}
use native.Mathlib.Omega.{arith}
use mathlib.Core.List.{List, [], ◌∷◌, ◌++◌, append_assoc}
use mathlib.Core.Path.{◌≡◌, refl, sym, ap, ◌∙◌}
use lib.ListN.{length, take, drop, set, get_or, length-append, length-take, length-drop, drop_of_length-le}
use lib.Seq.{drop-cons, set_at}
use Rattle.std.specs.List.{copy_within}
use Rattle.std.proofs.lemmas.List.Edits.{paste_all}

pub gap_closed : {A : Type 0} (xs : List A) (gap last : ℕ) (a : A) → gap < length xs → suc last ≡ length xs
    → set (copy_within xs (gap + 1) (length xs) gap) last a ≡ take gap xs ++ drop (gap + 1) xs ++ a ∷ []
gap_closed xs gap last a low end =
    let front = take gap xs ++ drop (gap + 1) xs in
    let behind = length-drop (gap + 1) xs in
    let long : length front ≡ last =
    length-append (take gap xs) (drop (gap + 1) xs) ∙ omega (arith, end, low, length-take gap xs, behind) in
    let copied : length xs - (gap + 1) ≡ length (drop (gap + 1) xs) = sym behind in
    let rest : gap + (length xs - (gap + 1)) ≡ last = omega (arith, end, low) in
    let one : drop last xs ≡ get_or xs last a ∷ [] = rw (drop-cons xs last a (omega (arith, end)), drop_of_length-le xs {i = suc last} (omega (arith, end))) refl in
    ap (λ ys. set ys last a)
    (paste_all xs gap (drop (gap + 1) xs) (length xs - (gap + 1)) copied
    ∙ ap (λ n. take gap xs ++ (drop (gap + 1) xs ++ drop n xs)) rest
    ∙ ap (λ ys. take gap xs ++ (drop (gap + 1) xs ++ ys)) one
    ∙ sym (append_assoc (take gap xs) (drop (gap + 1) xs) (get_or xs last a ∷ [])))
    ∙ set_at front (get_or xs last a) [] a last long
