-- The output by its parts, in the order in which they are put: the lines about the plan, then those of the events.
use Prim.Native.Nat.{ℕ, ◌+◌, ◌-◌, ◌≤◌, ◌<◌}
use native.Mathlib.Omega.{arith}
use mathlib.Core.Bool.{true, false}
use mathlib.Core.List.{List, ◌++◌, append-nil}
use mathlib.Core.Path.{◌≡◌, refl, sym, ap, ◌∙◌}
use lib.Dec.{eqb}
use lib.ListN.{length, take, drop, length-drop}
use lib.Seq.{take_all}
use borrow.Author.Tests.{le-leb, lt-leb}
use Rattle.model.specs.declared.Plan.{Plan}
use Rattle.events.specs.JobList.{empty_list}
use Rattle.plan_text.specs.TextQuestions.{max_text}
use Rattle.plan_text.specs.Reading.{reading}
use Rattle.plan_text.specs.declared.Reading.{Reading}
use Rattle.moves_text.specs.Decimals.{decimal}
use Rattle.moves_text.specs.Division.{plan_length, plan_part, event_part}
use Rattle.moves_text.specs.OutputLines.{plan_line, about_check, about_text, about_plan}
use Rattle.moves_text.specs.Output.{to_print, output}

pub too_long_output : (input : List ℕ) → max_text < length input → plan_line 1 0 ≡ output input
unfolding output decimal
too_long_output input h = rw (lt-leb (length input) max_text h) refl

-- the parts of the input, as they are lent
pub plan_lent : (input text : List ℕ) (n : ℕ) → n ≡ plan_length input → text ≡ take (n - 0) (drop 0 input) → text ≡ plan_part input
plan_lent input text n e f = let whole : n - 0 ≡ plan_length input = omega arith in f ∙ ap (λ k. take k input) whole

pub events_lent : (input text : List ℕ) (n : ℕ) → n ≡ plan_length input → text ≡ take (length input - (n + 2)) (drop (n + 2) input) → text ≡ event_part input
events_lent input text n e f =
    f
    ∙ take_all (length input - (n + 2)) (drop (n + 2) input) (omega (arith, length-drop (n + 2) input))
    ∙ ap (λ k. drop (k + 2) input) e

pub whole_output : (input : List ℕ) → length input ≤ max_text → (r : Reading) → r ≡ reading (plan_part input) → (events : List ℕ) → events ≡ event_part input
    → about_plan r ++ to_print r.plan empty_list 1 events ≡ output input
unfolding output
whole_output input h r read events lent =
    (λ i. about_plan (read i) ++ to_print (read i).plan empty_list 1 (lent i)) ∙ rw (le-leb (length input) max_text h) refl

-- the lines about the plan, by the number of its answer
pub about_accepted : (number line : ℕ) (p : Plan) → eqb number 0 ≡ true → plan_line number line ++ about_check p ≡ about_text number line p
about_accepted number line p e = rw e refl

pub about_refused : (number line : ℕ) (p : Plan) → eqb number 0 ≡ false → plan_line number line ≡ about_text number line p
about_refused number line p e = rw e (sym (append-nil (plan_line number line)))
