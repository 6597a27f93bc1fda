-- Keys that rise, as worded: of any two records of the list the key of the later is the greater, in the first number in which they
-- differ.
use Rattle.std.specs.Prelude.{ℕ, ◌<◌, List, [], ◌∷◌, ◌⊎◌, ◌≡◌}
use Rattle.model.specs.Numbers.{Each}
use Rattle.plan_text.specs.Records.{key_of}
use Rattle.plan_text.specs.declared.Record.{Record}

abbrev pub Below : List ℕ → List ℕ → Type 0
Below [] ys = ⊥
Below (x ∷ xs) [] = ⊥
Below (x ∷ xs) (y ∷ ys) = (x < y) ⊎ ((x ≡ y) × Below xs ys)

abbrev pub Rising : List Record → Type 0
Rising [] = Unit {0}
Rising (r ∷ rs) = Each (λ (q : Record). Below (key_of r) (key_of q)) rs × Rising rs
