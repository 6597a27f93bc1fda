-- The canonical form of a plan: C, then the records of each section in order of rising keys (`records_rise`), a line for each. A record
-- whose value is 0 is left out, but a bound is written always.
use Rattle.std.specs.Prelude.{ℕ, zero, suc, cond, List, [], ◌∷◌, ◌++◌, map, eqb, length, take}
use Rattle.model.specs.Numbers.{entry, at}
use Rattle.model.specs.Plan.{length_of, demand_of, weight_of}
use Rattle.model.specs.declared.Plan.{Plan}
use Rattle.plan_text.specs.Records.{letters, sections, layout_of, numbers_of}
use Rattle.plan_text.specs.Meaning.{C, R, T, S, B, A, K}
use Rattle.plan_text.specs.declared.Record.{Record}
use Rattle.moves_text.specs.Decimals.{decimal, line_with}

-- f 1, .., f n, one behind the other
abbrev pub list_to : {A : Type 0} → ℕ → (ℕ → List A) → List A
list_to zero f = []
list_to (suc n) f = list_to n f ++ f (suc n)

-- the record of a value; none where the value is 0
abbrev pub valued : ℕ → (ℕ → Record) → List Record
valued v of = cond (eqb v 0) [] (of v ∷ [])

-- the records of a list's first n entries: R, T and K
abbrev pub entry_records : (ℕ → ℕ → Record) → ℕ → List ℕ → List Record
entry_records of n xs = list_to n (λ i. valued (at xs i) (of i))

-- S: by type, then stage, then resource
abbrev pub stage_demands : Plan → ℕ → ℕ → List Record
stage_demands p t k = list_to p.resources (λ r. valued (demand_of p r t k) (S t k r))

abbrev pub demand_records : Plan → List Record
demand_records p = list_to p.types (λ t. list_to (length_of p t) (stage_demands p t))

-- B: a bound of 0 too
abbrev pub bound_records : ℕ → List ℕ → List Record
bound_records n xs = list_to n (λ w. B w (at xs w) ∷ [])

-- A: by row, then type, then stage
abbrev pub type_weights : Plan → ℕ → ℕ → List Record
type_weights p w t = list_to (length_of p t) (λ k. valued (weight_of p w t k) (A w t k))

abbrev pub weight_records : Plan → List Record
weight_records p = list_to p.rows (λ w. list_to p.types (type_weights p w))

-- the records of each section, in the order of `letters`, and of the whole plan
abbrev pub section_lists : Plan → List (List Record)
section_lists p =
    (C p.resources p.types p.rows ∷ [])
    ∷ entry_records R p.resources p.capacity
    ∷ entry_records T p.types p.lengths
    ∷ demand_records p
    ∷ bound_records p.rows p.bound
    ∷ weight_records p
    ∷ entry_records K p.resources p.rank
    ∷ []

abbrev pub section_records : Plan → ℕ → List Record
section_records p section = entry (section_lists p) section []

abbrev pub plan_records : Plan → List Record
plan_records p = list_to sections (section_records p)

-- a record's line: its letter and its numbers without leading zeros, parted by tabs, and its LF
abbrev pub letter_of : Record → List ℕ
letter_of r = entry letters r.section 0 ∷ []

abbrev pub fields_of : Record → List (List ℕ)
fields_of r = map decimal (take (length (layout_of r.section)) (numbers_of r))

abbrev pub record_text : Record → List ℕ
record_text r = line_with (letter_of r ∷ fields_of r)

-- the lines of records, and the canonical text of a plan: no comment, no empty line
abbrev pub text_of : List Record → List ℕ
text_of [] = []
text_of (r ∷ rs) = record_text r ++ text_of rs

unfoldable pub canonical_text : Plan → List ℕ
canonical_text p = text_of (plan_records p)
