-- The upstream rule of document 01 and the check that answers by it.
use Rattle.std.specs.Prelude.{ℕ, ◌-◌, ◌≤◌, ◌<◌, Bool, cond, ◌&&◌, ◌||◌, List, [], ◌∷◌, ◌≡◌, ◌≢◌, leb, ltb, eqb}
use Rattle.model.specs.Numbers.{InRange, in_range, sum_to, all_to, some_to, lowest, Lowest}
use Rattle.model.specs.Questions.{Question, Condition, ask, asks, answer_of}
use Rattle.model.specs.Plan.{capacity_of, rank_of, bound_of, length_of, IsStage, demand_of, weight_of, Demands}
use Rattle.model.specs.Soundness.{Sound, sound}
use Rattle.model.specs.declared.Plan.{Plan}
use Rattle.model.specs.declared.Check.{Check}
use Rattle.model.specs.declared.Check.TheVariants.{Meets, UnsoundPlan, NoRank, NotOneUnit, RowCount, WrongWeight, WrongBound}

-- the stage demands a resource whose rank is at most that of `target`
abbrev pub RankedUpTo : Plan → ℕ → ℕ → ℕ → Type 0
RankedUpTo p target t k = (r : ℕ) × InRange r p.resources × Demands p t k r × (rank_of p r ≤ rank_of p target)

-- stage k of type t is upstream of the resource (document 01's term)
pub record UpstreamOf (p : Plan) (resource t k : ℕ) : Type 0 where
  pub q : ℕ
  pub from : k ≤ q
  pub within : InRange q (length_of p t)
  pub demands : Demands p t q resource
  pub between : (i : ℕ) → k ≤ i → i < q → RankedUpTo p resource t i

-- the stage demands exactly one unit of one resource
pub record OneUnit (p : Plan) (t k : ℕ) : Type 0 where
  pub resource : ℕ
  pub within : InRange resource p.resources
  pub one : demand_of p resource t k ≡ 1
  pub others : (r : ℕ) → InRange r p.resources → r ≢ resource → demand_of p r t k ≡ 0

-- every stage of type t does
abbrev pub OneUnits : Plan → ℕ → Type 0
OneUnits p t = (k : ℕ) → InRange k (length_of p t) → OneUnit p t k

-- every resource has a rank
abbrev pub Ranked : Plan → Type 0
Ranked p = (r : ℕ) → InRange r p.resources → 1 ≤ rank_of p r

-- row r is weighted 1 at every stage upstream of resource r and 0 elsewhere
abbrev pub UpstreamRow : Plan → ℕ → Type 0
UpstreamRow p r = (t k : ℕ) → IsStage p t k → (UpstreamOf p r t k → weight_of p r t k ≡ 1) × ((¬ UpstreamOf p r t k) → weight_of p r t k ≡ 0)

-- the bound of row r is between 1 and the capacity of resource r
abbrev pub UpstreamBound : Plan → ℕ → Type 0
UpstreamBound p r = InRange (bound_of p r) (capacity_of p r)

-- the upstream rule (document 01's term): the check's questions, all met
pub record UpstreamRule (p : Plan) : Type 0 where
  pub sound : Sound p
  pub ranked : Ranked p
  pub one_units : (t : ℕ) → InRange t p.types → OneUnits p t
  pub as_many_rows : p.rows ≡ p.resources
  pub rows : (r : ℕ) → InRange r p.rows → UpstreamRow p r
  pub bounds : (r : ℕ) → InRange r p.rows → UpstreamBound p r

-- the paper's number and two places of each answer, and whether it is 0
abbrev pub check_numbers : Check → ℕ × ℕ × ℕ
check_numbers Meets = (0, 0, 0)
check_numbers UnsoundPlan = (11, 0, 0)
check_numbers NoRank = (21, 0, 0)
check_numbers (NotOneUnit t k) = (22, t, k)
check_numbers RowCount = (23, 0, 0)
check_numbers (WrongWeight r) = (24, r, 0)
check_numbers (WrongBound r) = (25, r, 0)

abbrev pub is_meets : Check → Bool
is_meets c = eqb (check_numbers c).0 0

-- the answer has this number and these two places
abbrev pub CheckSays : ℕ → ℕ → ℕ → Check → Type 0
CheckSays number first second c = check_numbers c ≡ (number, first, second)

-- the check's questions as they are worded: what is asked, and the number and place of the refusal
abbrev pub check_conditions : Plan → List (Condition Check)
check_conditions p =
    asks (Sound p) (CheckSays 11 0 0)
    ∷ asks (Ranked p) (CheckSays 21 0 0)
    ∷ record {
      holds = (t : ℕ) → InRange t p.types → OneUnits p t;
      refusal = λ a. (t k : ℕ) × CheckSays 22 t k a × Lowest p.types (OneUnits p) t × Lowest (length_of p t) (OneUnit p t) k;
    }
    ∷ asks (p.rows ≡ p.resources) (CheckSays 23 0 0)
    ∷ record {
      holds = (r : ℕ) → InRange r p.rows → UpstreamRow p r;
      refusal = λ a. (r : ℕ) × CheckSays 24 r 0 a × Lowest p.rows (UpstreamRow p) r;
    }
    ∷ record {
      holds = (r : ℕ) → InRange r p.rows → UpstreamBound p r;
      refusal = λ a. (r : ℕ) × CheckSays 25 r 0 a × Lowest p.rows (UpstreamBound p) r;
    }
    ∷ []

-- the same, computed
abbrev pub demands : Plan → ℕ → ℕ → ℕ → Bool
demands p t k r = leb 1 (demand_of p r t k)

unfoldable pub ranked_up_to : Plan → ℕ → ℕ → ℕ → Bool
ranked_up_to p target t k = some_to p.resources (λ (r : ℕ). demands p t k r && leb (rank_of p r) (rank_of p target))

-- some stage q from k on demands the resource, and the stages k to q - 1 are ranked up to it
unfoldable pub upstream_of : Plan → ℕ → ℕ → ℕ → Bool
upstream_of p resource t k =
    some_to (length_of p t) (λ (q : ℕ). leb k q && demands p t q resource && all_to (q - 1) (λ (i : ℕ). ltb i k || ranked_up_to p resource t i))

unfoldable pub one_unit : Plan → ℕ → ℕ → Bool
one_unit p t k = eqb (sum_to p.resources (λ (r : ℕ). demand_of p r t k)) 1

-- the lowest stage of type t that does not demand one unit, and the lowest type that has one; 0 for none
unfoldable pub faulty_stage : Plan → ℕ → ℕ
faulty_stage p t = lowest (length_of p t) (one_unit p t)

unfoldable pub faulty_type : Plan → ℕ
faulty_type p = lowest p.types (λ (t : ℕ). eqb (faulty_stage p t) 0)

unfoldable pub upstream_row : Plan → ℕ → Bool
upstream_row p r =
    all_to p.types (λ (t : ℕ). all_to (length_of p t) (λ (k : ℕ). eqb (weight_of p r t k) (cond (upstream_of p r t k) 1 0)))

-- the lowest row with a wrong weight, and with a wrong bound; 0 for none
unfoldable pub faulty_row : Plan → ℕ
faulty_row p = lowest p.rows (upstream_row p)

unfoldable pub faulty_bound : Plan → ℕ
faulty_bound p = lowest p.rows (λ (r : ℕ). in_range (bound_of p r) (capacity_of p r))

abbrev pub check_questions : Plan → List (Question Check)
check_questions p =
    ask (sound p) UnsoundPlan
    ∷ ask (all_to p.resources (λ (r : ℕ). leb 1 (rank_of p r))) NoRank
    ∷ ask (eqb (faulty_type p) 0) (NotOneUnit (faulty_type p) (faulty_stage p (faulty_type p)))
    ∷ ask (eqb p.rows p.resources) RowCount
    ∷ ask (eqb (faulty_row p) 0) (WrongWeight (faulty_row p))
    ∷ ask (eqb (faulty_bound p) 0) (WrongBound (faulty_bound p))
    ∷ []

unfoldable pub check : Plan → Check
check p = answer_of Meets (check_questions p)
