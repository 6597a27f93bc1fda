-- The call says that all pass, which is the same recursion.
use Rattle.std.proofs.Common.{◌≡◌, ℕ, Bool, List, [], ◌∷◌, ◌&&◌, refl, ap, ◌∙◌, rules, tests}
use Rattle.std.specs.List.{list_all}
use Rattle.std.proofs.lemmas.Iterator.{YieldsList-from_slice}
use Rattle.std.proofs.lemmas.Iterator.Search.{all_from_yields_List}
use Rattle.model.specs.Numbers.{each}
use Rattle.plan_text.specs.Lines.{is_plain}
use Rattle.read_form.proofs.is_plain.Goals as goal

all_each : (p : ℕ → Bool) (xs : List ℕ) → list_all p xs ≡ each p xs
all_each p [] = refl
all_each p (x ∷ xs) = ap (λ (b : Bool). p x && b) (all_each p xs)

pub returns : goal.returns
returns c =
    let xs = c.args.line.now in
    all_from_yields_List is_plain _ _ _ c.all.ensures.ran (YieldsList-from_slice xs cc) (λ x b q k. search (rules, tests)) ∙ all_each is_plain xs
