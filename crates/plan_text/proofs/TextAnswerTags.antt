-- What the code knows of a text's answer in the branch that is not for the acceptance: its tag is one of the others'.
use Prim.Native.Nat.{ℕ}
use mathlib.Core.Bool.{false}
use mathlib.Core.List.{List, [], ◌∷◌}
use mathlib.Core.Path.{◌≡◌, refl}
use types.Run.{OneOf, miss}
use denote.Enum.Declared.{tag_of}
use Rattle.plan_text.specs.TextQuestions.{is_accepted}
use Rattle.plan_text.specs.declared.TextAnswer.{TextAnswer}
use Rattle.plan_text.specs.declared.TextAnswer.TheVariants.{Accepted, TooLong, BadLine, BadLetter, BadFields, OutOfRange, Repeated, Incomplete}
use Rattle.plan_text.specs.contracts.TextAnswer.{the_type}

abbrev refusals : List ℕ
refusals = 1 ∷ 2 ∷ 3 ∷ 4 ∷ 5 ∷ 6 ∷ 7 ∷ []

pub refused_text_tag : (a : TextAnswer) → OneOf refusals (tag_of the_type a) → is_accepted a ≡ false
refused_text_tag Accepted h = absurd (miss refusals 0 tt h)
refused_text_tag TooLong h = refl
refused_text_tag BadLine h = refl
refused_text_tag BadLetter h = refl
refused_text_tag BadFields h = refl
refused_text_tag OutOfRange h = refl
refused_text_tag Repeated h = refl
refused_text_tag Incomplete h = refl
