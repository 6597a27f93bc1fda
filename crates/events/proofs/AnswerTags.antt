-- What the code knows of an answer in the branch that is not for the acceptance: its tag is one of the others'.
use Prim.Native.Nat.{ℕ}
use mathlib.Core.Bool.{false, not}
use mathlib.Core.List.{List, [], ◌∷◌}
use mathlib.Core.Logic.{◌≢◌, ⊎_elim}
use mathlib.Core.Path.{◌≡◌, subst}
use lib.Dec.{T}
use mir.Val.{has_key}
use types.Run.{OneOf, miss}
use denote.Enum.Declared.{tag_of}
use Rattle.events.specs.Events.{is_admitted}
use Rattle.events.specs.declared.Answer.{Answer}
use Rattle.events.specs.declared.Answer.TheVariants.{Admitted}
use Rattle.events.specs.contracts.Answer.{the_type}
use Rattle.events.proofs.Answers.{admitted_or_not}

-- an answer is none whose tag is not among these
pub other_tag : (a b : Answer) (tags : List ℕ) → T (not (has_key tags (tag_of the_type b))) → OneOf tags (tag_of the_type a) → a ≢ b
other_tag a b tags missing h e =
    miss tags (tag_of the_type b) missing (subst (λ (x : Answer). OneOf tags (tag_of the_type x)) e h)

pub not_admitted : (a : Answer) → a ≢ Admitted → is_admitted a ≡ false
not_admitted a other = ⊎_elim (λ e. absurd (other e)) (λ (h : is_admitted a ≡ false). h) (admitted_or_not a)

abbrev refusals : List ℕ
refusals = 1 ∷ 2 ∷ 3 ∷ 4 ∷ 5 ∷ 6 ∷ 7 ∷ 8 ∷ 9 ∷ []

pub refused_tag : (a : Answer) → OneOf refusals (tag_of the_type a) → is_admitted a ≡ false
refused_tag a h = not_admitted a (other_tag a Admitted refusals tt h)
