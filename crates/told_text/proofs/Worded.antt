-- Every published number has its words, each number once and no two of them the same: a search of the list finds the one line that has
-- the number, and tests on the list decide that no number and no words stand in it twice.
use Prim.Native.Nat.{ℕ, ◌+◌}
use mathlib.Core.Bool.{Bool, true, false, cond, false≢true}
use mathlib.Core.List.{List, [], ◌∷◌, ◌++◌, map}
use mathlib.Core.Logic.{◌≢◌}
use mathlib.Core.Path.{◌≡◌, refl, sym, ap, subst, ◌∙◌}
use lib.Dec.{eqb}
use borrow.Author.Tests.{eq-eqb, ne_eqb}
use Rattle.model.specs.Numbers.{Each, Split, Distinct}
use Rattle.model.specs.Upstream.{check_numbers}
use Rattle.model.specs.declared.Check.{Check}
use Rattle.model.specs.declared.Check.TheVariants.{Meets, UnsoundPlan, NoRank, NotOneUnit, RowCount, WrongWeight, WrongBound}
use Rattle.model.proofs.Decide.{Decides, holding, failing, holds, decides_eq}
use Rattle.model.proofs.Jobs.{decides_distinct}
use Rattle.model.proofs.Lists.{each_at, split_first, split_later}
use Rattle.events.specs.Events.{answer_numbers}
use Rattle.events.specs.Drain.{end_number}
use Rattle.events.specs.declared.Answer.{Answer}
use Rattle.events.specs.declared.Answer.TheVariants as event
use Rattle.events.specs.declared.End.{End}
use Rattle.events.specs.declared.End.TheVariants as drain
use Rattle.plan_text.specs.TextQuestions.{text_number}
use Rattle.plan_text.specs.declared.TextAnswer.{TextAnswer}
use Rattle.plan_text.specs.declared.TextAnswer.TheVariants.{Accepted, TooLong, BadLine, BadLetter, BadFields, OutOfRange, Repeated, Incomplete}
use Rattle.moves_text.specs.OutputLines.{malformed}
use Rattle.canonical_text.specs.Writing.{write_number}
use Rattle.canonical_text.specs.declared.WriteAnswer.{WriteAnswer}
use Rattle.canonical_text.specs.declared.WriteAnswer.TheVariants as writer
use Rattle.told_text.specs.Words.{Worded, worded, IsWorded, words_in, words_of}

-- a search by a key that no two lines share finds the line at which the list is split
module _ {A : Type 0} (key : Worded → ℕ) (value : Worded → A) (otherwise : A) where
  abbrev value_at : List Worded → ℕ → A
  value_at [] k = otherwise
  value_at (w ∷ ws) k = cond (eqb k (key w)) (value w) (value_at ws k)

  found_between : (before : List Worded) (w : Worded) (after : List Worded) → Distinct (map key (before ++ w ∷ after))
      → value_at (before ++ w ∷ after) (key w) ≡ value w
  found_between [] w after d = rw (eq-eqb (key w) (key w) refl) refl
  found_between (v ∷ before) w after d =
      rw (ne_eqb (key w) (key v) (each_at (λ x. key x ≢ key v) before w after (of_map (key v) (before ++ w ∷ after) d.0))) (found_between before w after d.1)
    where
      of_map : (n : ℕ) (ws : List Worded) → Each (λ m. m ≢ n) (map key ws) → Each (λ x. key x ≢ n) ws
      of_map n [] h = tt
      of_map n (x ∷ ws) h = (h.0, of_map n ws h.1)

  value_found : {ws : List Worded} → Distinct (map key ws) → (here : Split ws) → value_at ws (key here.item) ≡ value here.item
  value_found {ws} d here =
      let at : Distinct (map key (here.before ++ here.item ∷ here.after)) = subst (λ xs. Distinct (map key xs)) here.whole d in
      subst (λ xs. value_at xs (key here.item) ≡ value here.item) (sym here.whole) (found_between here.before here.item here.after at)

-- no number stands in the list twice
pub worded_once : Distinct (map (λ (w : Worded). w.number) worded)
worded_once = holds (decides_distinct (map (λ (w : Worded). w.number) worded)) refl

-- what is said of a number is its line of the list
pub words_told : {n : ℕ} (w : IsWorded n) → words_of n ≡ w.here.item.words
unfolding words_of
words_told w =
    subst (λ n. words_in worded n ≡ w.here.item.words) w.number
    (value_found (λ v. v.number) (λ v. v.words) [] worded_once w.here)

-- no two numbers have the same words: not even the same sum of their bytes
sum_of : List ℕ → ℕ
sum_of [] = 0
sum_of (b ∷ bs) = b + sum_of bs

pub words_differ : {m n : ℕ} (v : IsWorded m) (w : IsWorded n) → words_of m ≡ words_of n → m ≡ n
unfolding sum_of
words_differ v w e =
    let sum : Worded → ℕ = λ x. sum_of x.words in
    let once : Distinct (map sum worded) = holds (decides_distinct (map sum worded)) refl in
    let number : ℕ → ℕ = value_at sum (λ x. x.number) 0 worded in
    let same : v.here.item.words ≡ w.here.item.words = sym (words_told v) ∙ e ∙ words_told w in
    sym v.number
    ∙ sym (value_found sum (λ x. x.number) 0 once v.here)
    ∙ ap (λ bs. number (sum_of bs)) same
    ∙ value_found sum (λ x. x.number) 0 once w.here
    ∙ w.number

-- a number of which something is said stands in the list
abbrev is_said : List ℕ → Bool
is_said [] = false
is_said (b ∷ bs) = true

said_some : (bs : List ℕ) → is_said bs ≡ true → bs ≢ []
said_some bs h e = false≢true (ap is_said (sym e) ∙ h)

-- a line with the number, of which something is said
record Line (ws : List Worded) (n : ℕ) : Type 0 where
  here : Split ws
  number : here.item.number ≡ n
  said : here.item.words ≢ []

line_found : (n : ℕ) (ws : List Worded) → is_said (words_in ws n) ≡ true → Line ws n
line_found n [] h = absurd (false≢true h)
line_found n (w ∷ ws) h = step (line_found n ws) (decides_eq n w.number) h
  where
    step : (is_said (words_in ws n) ≡ true → Line ws n) → {b : Bool} → Decides (n ≡ w.number) b → is_said (cond b w.words (words_in ws n)) ≡ true
        → Line (w ∷ ws) n
    step later (holding e) h = record { here = split_first w ws; number = sym e; said = said_some w.words h }
    step later (failing ne) h = let l = later h in record { here = split_later w l.here; number = l.number; said = l.said }

is_worded : (n : ℕ) → is_said (words_in worded n) ≡ true → IsWorded n
is_worded n h = let l = line_found n worded h in record { here = l.here; number = l.number; said = l.said }

-- the numbers of every answer: of a plan text, of an event, of the upstream check, of a drain, of a plan that is written, and of a line
pub text_worded : (a : TextAnswer) → IsWorded (text_number a)
text_worded Accepted = is_worded 0 refl
text_worded TooLong = is_worded 1 refl
text_worded BadLine = is_worded 2 refl
text_worded BadLetter = is_worded 3 refl
text_worded BadFields = is_worded 4 refl
text_worded OutOfRange = is_worded 5 refl
text_worded Repeated = is_worded 6 refl
text_worded Incomplete = is_worded 7 refl

pub answer_worded : (a : Answer) → IsWorded (answer_numbers a).0
answer_worded event.Admitted = is_worded 0 refl
answer_worded event.UnsoundPlan = is_worded 11 refl
answer_worded event.Disagreement = is_worded 12 refl
answer_worded event.BadNumber = is_worded 13 refl
answer_worded event.WrongActivity = is_worded 14 refl
answer_worded event.UnknownType = is_worded 15 refl
answer_worded event.Full = is_worded 16 refl
answer_worded event.WrongStage = is_worded 17 refl
answer_worded (event.OverCapacity r) = is_worded 18 refl
answer_worded (event.RowBroken w) = is_worded 19 refl

pub check_worded : (c : Check) → IsWorded (check_numbers c).0
check_worded Meets = is_worded 0 refl
check_worded UnsoundPlan = is_worded 11 refl
check_worded NoRank = is_worded 21 refl
check_worded (NotOneUnit t k) = is_worded 22 refl
check_worded RowCount = is_worded 23 refl
check_worded (WrongWeight r) = is_worded 24 refl
check_worded (WrongBound r) = is_worded 25 refl

pub end_worded : (e : End) → IsWorded (end_number e)
end_worded drain.Emptied = is_worded 0 refl
end_worded drain.UnsoundPlan = is_worded 11 refl
end_worded drain.Disagreement = is_worded 12 refl
end_worded drain.OutOfBudget = is_worded 31 refl
end_worded drain.NoMove = is_worded 32 refl

-- 9 is also what the library answers of a cell with too few bytes
pub write_worded : (a : WriteAnswer) → IsWorded (write_number a)
write_worded writer.Written = is_worded 0 refl
write_worded writer.NoRoom = is_worded 9 refl
write_worded writer.UnsoundPlan = is_worded 11 refl

pub malformed_worded : IsWorded malformed
malformed_worded = is_worded malformed refl
