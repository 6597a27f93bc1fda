-- Questions in an order: the first that fails decides the answer.
use Rattle.std.specs.Prelude.{Bool, cond, List, [], ◌∷◌, ◌⊎◌}

-- a question as it is computed: is it met, and what is answered if not
pub record Question (A : Type 0) : Type 0 where
  pub met : Bool
  pub refusal : A

abbrev pub ask : {A : Type 0} → Bool → A → Question A
ask b a = record { met = b; refusal = a }

-- the refusal of the first question that is not met, `ok` where all are
abbrev pub answer_of : {A : Type 0} → A → List (Question A) → A
answer_of ok [] = ok
answer_of ok (q ∷ qs) = cond q.met (answer_of ok qs) q.refusal

-- a question as it is worded: what it asks, and what the refusal then says
pub record Condition (A : Type 0) : Type 1 where
  pub holds : Type 0
  pub refusal : A → Type 0

abbrev pub asks : {A : Type 0} → Type 0 → (A → Type 0) → Condition A
asks P says = record { holds = P; refusal = says }

-- P holds of each question; every question is met
abbrev pub EachCondition : {A : Type 0} → (Condition A → Type 0) → List (Condition A) → Type 0
EachCondition P [] = Unit {0}
EachCondition P (q ∷ qs) = P q × EachCondition P qs

abbrev pub AllHold : {A : Type 0} → List (Condition A) → Type 0
AllHold {A} qs = EachCondition (λ (q : Condition A). q.holds) qs

-- the answer is that of the first question that fails, and `ok` says what it is where none does
abbrev pub FirstFailure : {A : Type 0} → (A → Type 0) → List (Condition A) → A → Type 0
FirstFailure ok [] a = ok a
FirstFailure ok (q ∷ qs) a = ((¬ q.holds) × q.refusal a) ⊎ (q.holds × FirstFailure ok qs a)
