-- The lowest rank that a stage demands, and the weight that is due to it in a row.
use Rattle.std.specs.Prelude.{ℕ, zero, suc, min, Bool, cond, ◌&&◌, List, leb}
use Rattle.model.specs.Numbers.{at, some_to}

-- above every rank
abbrev pub no_rank : ℕ
no_rank = 256

-- the rank of a resource that is demanded
abbrev pub rank_if : ℕ → ℕ → ℕ
rank_if demand rank = cond (leb 1 demand) rank no_rank

-- the lowest rank of those of n resources that a stage with these demands demands
abbrev pub lowest_rank : ℕ → List ℕ → List ℕ → ℕ
lowest_rank zero demand rank = no_rank
lowest_rank (suc n) demand rank = min (lowest_rank n demand rank) (rank_if (at demand (suc n)) (at rank (suc n)))

-- the stage demands one of n resources whose rank is at most the limit
abbrev pub ranked_in : ℕ → List ℕ → List ℕ → ℕ → Bool
ranked_in n demand rank limit = some_to n (λ (r : ℕ). leb 1 (at demand r) && leb (at rank r) limit)

-- the weight due to a stage in a resource's row, by its demand of the resource, the least rank whose stretch goes on past it, the
-- resource's rank, and the weight due to the stage after it
abbrev pub due_by : ℕ → ℕ → ℕ → ℕ → ℕ
due_by demand rank limit later = cond (leb 1 demand) 1 (cond (leb rank limit) later 0)
