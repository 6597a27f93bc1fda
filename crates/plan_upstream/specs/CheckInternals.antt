-- What the parts of the check compute, each under one name: where an index belongs, the first entry that does not demand one
-- unit, and the ranks from which on stretches go on.
use Rattle.std.specs.Prelude.{ℕ, zero, suc, ◌+◌, ◌-◌, ◌≤◌, ◌<◌, Bool, true, false, cond, List, ◌≡◌, eqb, get_or, Option, Some, None, MatchOption}
use Rattle.model.specs.Limits.{max_types, max_all_stages}
use Rattle.model.specs.Numbers.{InRange, entry, at, sum_to, all_to}
use Rattle.model.specs.Plan.{no_stage, length_of, IsStage, stage_of}
use Rattle.model.specs.declared.Plan.{Plan}
use Rattle.plan_upstream_stage.specs.Due.{no_rank, lowest_rank}
use Rattle.plan_upstream.specs.declared.position.Position.{Position}

-- the index, counted from 0, is that of the position
pub record Stands (lengths : List ℕ) (types index : ℕ) (a : Position) : Type 0 where
  pub indexed : index ≡ sum_to a.kind (at lengths) + a.stage
  pub of_type : a.kind < types
  pub of_stage : a.stage < get_or lengths a.kind 0

-- it is that of the position, or at or beyond the end of all stages
abbrev pub Belongs : List ℕ → ℕ → ℕ → Option Position → Type 0
Belongs lengths types index r = MatchOption r (sum_to types (at lengths) ≤ index) (Stands lengths types index)

-- a number of 1 on as a place; 0 is none
abbrev pub place : ℕ → Option ℕ
place zero = None
place (suc n) = Some (suc n)

-- entry i of the stages, counted from 1, demands one unit in all
abbrev pub unit_entry : Plan → ℕ → Bool
unit_entry p i = eqb (sum_to p.resources (at (entry p.stages i no_stage).demand)) 1

-- every entry before the index does, and the entry there does not
pub record FirstOther (p : Plan) (index : ℕ) : Type 0 where
  pub before : all_to index (unit_entry p) ≡ true
  pub within : index ≤ max_all_stages
  pub here : index < max_all_stages → unit_entry p (suc index) ≡ false

-- entry i of the ranks, of the first n, is the lowest that entry i of the stages demands
abbrev pub LowestRanks : Plan → ℕ → List ℕ → Type 0
LowestRanks p n ranks = (i : ℕ) → InRange i n → at ranks i ≡ lowest_rank p.resources (entry p.stages i no_stage).demand p.rank

-- each type has a stage, and the array of stages has room for all
pub record Types (lengths : List ℕ) (types : ℕ) : Type 0 where
  pub few : types ≤ max_types
  pub some : (t : ℕ) → InRange t types → 1 ≤ at lengths t
  pub total : sum_to types (at lengths) ≤ max_all_stages

-- the ranks, stage by stage of each type, are as they were, but above every rank at a type's last stage
abbrev pub Closed : List ℕ → ℕ → List ℕ → List ℕ → Type 0
Closed lengths types lowest ranks =
    (t k : ℕ) → InRange t types → InRange k (at lengths t)
    → let i = sum_to (t - 1) (at lengths) + k in at ranks i ≡ cond (eqb k (at lengths t)) no_rank (at lowest i)

-- the least rank of a resource whose stretch goes on past stage k of type t: none goes on past a type's last stage
abbrev pub stretch_rank : Plan → ℕ → ℕ → ℕ
stretch_rank p t k = cond (eqb k (length_of p t)) no_rank (lowest_rank p.resources (stage_of p t k).demand p.rank)

-- the ranks are these
abbrev pub StretchRanks : Plan → List ℕ → Type 0
StretchRanks p ranks = (t k : ℕ) → IsStage p t k → at ranks (sum_to (t - 1) (length_of p) + k) ≡ stretch_rank p t k
