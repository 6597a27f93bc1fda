-- The same, computed: the plan that records write. Each record writes one entry, that of its key, and leaves the others: with a pencil, find the
-- entry by the record's first numbers, strike it out and write the last number there. C alone writes three.
use Rattle.std.specs.Prelude.{ℕ, ◌+◌, ◌-◌, cond, List, [], ◌∷◌, eqb, get_or, set, replicate}
use Rattle.model.specs.Limits.{max_rows}
use Rattle.model.specs.Numbers.{entry, at, sum_to}
use Rattle.model.specs.Plan.{no_stage, empty_plan}
use Rattle.model.specs.declared.Stage.{Stage}
use Rattle.model.specs.declared.Plan.{Plan}
use Rattle.plan_text.specs.Records.{no_section, section_c, section_r, section_t, section_s, section_b, section_a, section_k}
use Rattle.plan_text.specs.declared.Record.{Record}

-- a plan so far; with it which rows have their bound, 1 for those that do, since a bound may be 0; and the section of the last record
pub record Draft : Type 0 where
  pub plan : Plan
  pub bounded : List ℕ
  pub section : ℕ

unfoldable pub empty_draft : Draft
empty_draft = record { plan = empty_plan; bounded = replicate max_rows 0; section = no_section }

-- the list with entry number i, counted from 1, at x
abbrev pub put : List ℕ → ℕ → ℕ → List ℕ
put xs i x = set xs (i - 1) x

-- the stage with a demand, and with a weight
abbrev pub with_demand : Stage → ℕ → ℕ → Stage
with_demand s r x = record { demand = put s.demand r x; weight = s.weight }

abbrev pub with_weight : Stage → ℕ → ℕ → Stage
with_weight s w x = record { demand = s.demand; weight = put s.weight w x }

-- the type and the stage that a record names: in S they are its first two numbers, in A, behind the row, the second and third
abbrev pub type_named : Record → ℕ
type_named r = cond (eqb r.section section_s) r.first r.second

abbrev pub stage_named : Record → ℕ
stage_named r = cond (eqb r.section section_s) r.second r.third

-- the new value where the record is of section n, and else the old
abbrev pub of_section : {A : Type 0} → Record → ℕ → A → A → A
of_section r n new old = cond (eqb r.section n) new old

-- how many stages stand before the one named: those of the types before its own, by the stages of each type, and the earlier ones of its own. A
-- record that names no stage has 0 here, and leaves that stage as it is
unfoldable pub index_named : List ℕ → Record → ℕ
index_named lengths r =
    let i = sum_to (type_named r - 1) (at lengths) + (stage_named r - 1) in
    of_section r section_s i (of_section r section_a i 0)

-- a list after a record of its section n: the entry with the first number is the second; and the rows that have their bound
abbrev pub entries_after : ℕ → List ℕ → Record → List ℕ
entries_after n xs r = of_section r n (put xs r.first r.second) xs

abbrev pub bounded_after : List ℕ → Record → List ℕ
bounded_after xs r = of_section r section_b (put xs r.first 1) xs

-- a stage after a record that names it: S type stage resource units writes a demand, A row type stage weight a weight
abbrev pub stage_after_record : Stage → Record → Stage
stage_after_record s r = of_section r section_s (with_demand s r.third r.fourth) (of_section r section_a (with_weight s r.first r.fourth) s)

-- the stage that a record names, as the plan has it
abbrev pub stage_here : Plan → Record → Stage
stage_here p r = get_or p.stages (index_named p.lengths r) no_stage

-- a record writes the entry of its key: C the three counts, R a capacity, T the stages of a type, S a demand, B a bound, A a
-- weight, K a rank
unfoldable pub draft_after : Draft → Record → Draft
draft_after d r =
    let p = d.plan in
    record {
      plan =
          record {
            resources = of_section r section_c r.first p.resources;
            types = of_section r section_c r.second p.types;
            rows = of_section r section_c r.third p.rows;
            capacity = entries_after section_r p.capacity r;
            rank = entries_after section_k p.rank r;
            bound = entries_after section_b p.bound r;
            lengths = entries_after section_t p.lengths r;
            stages = set p.stages (index_named p.lengths r) (stage_after_record (stage_here p r) r);
          };
      bounded = bounded_after d.bounded r;
      section = of_section r no_section d.section r.section;
    }

-- the draft after records, and the plan that they write
abbrev pub draft_after_all : Draft → List Record → Draft
draft_after_all d [] = d
draft_after_all d (r ∷ rs) = draft_after_all (draft_after d r) rs

abbrev pub draft_of : List Record → Draft
draft_of rs = draft_after_all empty_draft rs

abbrev pub plan_of : List Record → Plan
plan_of rs = (draft_of rs).plan

-- what a draft has under the key of a record, letter by letter in the order C, R, T, S, B, A, K; s is the stage that it names. 0 is that nothing is
-- there, and so the record is the first with its key
abbrev pub held_by : ℕ → List ℕ → List ℕ → List ℕ → List ℕ → Stage → Record → ℕ
held_by section capacity lengths bounded rank s r =
    entry
    (section
    ∷ at capacity r.first
    ∷ at lengths r.first
    ∷ at s.demand r.third
    ∷ at bounded r.first
    ∷ at s.weight r.first
    ∷ at rank r.first
    ∷ [])
    r.section
    0

unfoldable pub held_in : Draft → Record → ℕ
unfolding index_named
held_in d r =
    let p = d.plan in
    held_by d.section p.capacity p.lengths d.bounded p.rank (stage_here p r) r
