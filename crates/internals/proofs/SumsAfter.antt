-- Exchanging one stage for another in the sums over the jobs gives the sums over the jobs afterwards. The tests go over all
-- 32 entries: beyond the counts of a sound plan nothing is demanded and nothing weighed, so they name what the definitions
-- name within the counts, the lowest of the units and the greatest of the rows. The sums are stated over the amount, so they are one case.
use Prim.Native.Nat.{ℕ, ◌+◌, ◌-◌, ◌≤◌, ◌<◌}
use native.Mathlib.Omega.{arith}
use mathlib.Core.Bool.{true}
use mathlib.Core.List.{List, [], ◌∷◌, ◌++◌}
use mathlib.Core.Logic.{⊎_elim}
use mathlib.Core.Path.{◌≡◌, refl, ap, ap₂, subst⁻¹, ◌∙◌}
use lib.Dec.{leb}
use lib.ListN.{replicate}
use borrow.Author.Tests.{le-leb}
use Rattle.model.specs.Limits.{max_resources, max_rows}
use Rattle.model.specs.Numbers.{InRange, at, lowest, greatest, Split}
use Rattle.model.specs.Plan.{no_stage, stage_of, demand_of, weight_of}
use Rattle.model.specs.Jobs.{over_jobs, RowTest, exceeded, worst_row, broken, advanced_job, advanced_at}
use Rattle.model.specs.Soundness.{Sound}
use Rattle.model.specs.declared.Plan.{Plan}
use Rattle.model.specs.declared.Stage.{Stage}
use Rattle.model.specs.declared.Job.{Job}
use Rattle.model.proofs.Flat.{stage_cases}
use Rattle.model.proofs.Jobs.{row_test}
use Rattle.model.proofs.Lists.{zeros_at, every_each}
use Rattle.model.proofs.Sums.{over_jobs_append, over_jobs_moved, over_jobs_removed, over_jobs_zero}
use Rattle.events.specs.Events.{kept_answer}
use Rattle.internals.specs.Internals.{tabulate, sums_of, ceilings_of, lowest_after, greatest_after, worst_after, Exchanged, Exchange, RowTestApplies, kept_after}
use Rattle.internals.specs.declared.Sums.{Sums}
use Rattle.internals.specs.declared.Ceilings.{Ceilings}
use Rattle.internals.specs.declared.WorstRow.{WorstRow}
use Rattle.internals.proofs.FixedWidth.{at_tabulate, lowest_lanes, greatest_lanes}

-- the three exchanges: none; a job is added, with nothing given back; a job moves on from one stage to the next
module _ (p : Plan) (js : List Job) where
  pub none_exchanged : Exchange p js js no_stage no_stage
  none_exchanged = record { units = λ r. none (demand_of p r) r; rows = λ w. none (weight_of p w) w }
    where
      none : (f : ℕ → ℕ → ℕ) (i : ℕ) → Exchanged f js js (at (replicate 32 0) i) (at (replicate 32 0) i)
      none f i = rw (zeros_at 32 i) (refl, omega arith)

  module _ (j : Job) (new : Stage) (stage : new ≡ stage_of p j.kind j.stage) where
    added : (f : ℕ → ℕ → ℕ) (i n : ℕ) → n ≡ f j.kind j.stage → Exchanged f js (js ++ j ∷ []) (at (replicate 32 0) i) n
    added f i n e = rw (zeros_at 32 i, e) (omega (arith, over_jobs_append f js (j ∷ [])), omega arith)

    pub added_exchanged : Exchange p js (js ++ j ∷ []) no_stage new
    unfolding demand_of weight_of
    added_exchanged =
        record {
          units = λ r. added (demand_of p r) r _ (ap (λ (s : Stage). at s.demand r) stage);
          rows = λ w. added (weight_of p w) w _ (ap (λ (s : Stage). at s.weight w) stage);
        }

  module _ (s : Split js) where
    moved : (f : ℕ → ℕ → ℕ) (m n : ℕ) → m ≡ f s.item.kind s.item.stage → n ≡ f s.item.kind (s.item.stage + 1)
        → Exchanged f js (advanced_at p s) m n
    moved f m n e g =
        let whole = ap (over_jobs f) s.whole in
        let replaced = over_jobs_moved f s.before s.after s.item (advanced_job p s.item) in
        let removed = over_jobs_removed f s.before s.after s.item in
        rw (e, g) (omega (arith, replaced, whole), omega (arith, removed, whole))

    module _ (old new : Stage) (left : old ≡ stage_of p s.item.kind s.item.stage) (entered : new ≡ stage_of p s.item.kind (s.item.stage + 1)) where
      pub moved_exchanged : Exchange p js (advanced_at p s) old new
      unfolding demand_of weight_of
      moved_exchanged =
          record {
            units = λ r. moved (demand_of p r) _ _ (ap (λ (s : Stage). at s.demand r) left) (ap (λ (s : Stage). at s.demand r) entered);
            rows = λ w. moved (weight_of p w) _ _ (ap (λ (s : Stage). at s.weight w) left) (ap (λ (s : Stage). at s.weight w) entered);
          }

module _ (p : Plan) (sound : Sound p) where
  demand_beyond : (r : ℕ) → p.resources < r → (t k : ℕ) → demand_of p r t k ≡ 0
  unfolding demand_of
  demand_beyond r h t k =
      ⊎_elim (λ s. (sound.stages t k s).no_more_demands r h) (λ e. ap (λ (s : Stage). at s.demand r) e ∙ zeros_at 32 r) (stage_cases p t k)

  weight_beyond : (w : ℕ) → p.rows < w → (t k : ℕ) → weight_of p w t k ≡ 0
  unfolding weight_of
  weight_beyond w h t k =
      ⊎_elim (λ s. (sound.stages t k s).no_more_weights w h) (λ e. ap (λ (s : Stage). at s.weight w) e ∙ zeros_at 32 w) (stage_cases p t k)

  module _ (js next : List Job) where
    -- m entries of which those beyond the count n are nothing
    module _ (m n : ℕ) (f : ℕ → ℕ → ℕ → ℕ) (old new ceilings : List ℕ) (low : n ≤ m)
        (exchanged : (i : ℕ) → Exchanged (f i) js next (at old i) (at new i)) (beyond : (i : ℕ) → n < i → (t k : ℕ) → f i t k ≡ 0) where
      abbrev amounts : List ℕ
      amounts = tabulate m (λ i. over_jobs (f i) js)

      -- the sum after the exchange, and that it is nothing beyond the count
      sum : (i : ℕ) → InRange i m → at amounts i - at old i + at new i ≡ over_jobs (f i) next
      sum i h = omega (arith, at_tabulate (λ i. over_jobs (f i) js) m i h, exchanged i)

      none : (i : ℕ) → n < i → over_jobs (f i) next ≡ 0
      none i above = over_jobs_zero (f i) next (every_each _ (λ (j : Job). beyond i above j.kind j.stage) next)

      -- the lowest entry above its ceiling is the lowest within the count
      lowest_after_lem : lowest_after m amounts old new ceilings ≡ lowest n (λ i. leb (over_jobs (f i) next) (at ceilings i))
      unfolding lowest_after
      lowest_after_lem = lowest_lanes m n _ _ low (λ i h. same i (omega arith)) high
        where
          same : (i : ℕ) → InRange i m → leb (at amounts i - at old i + at new i) (at ceilings i) ≡ leb (over_jobs (f i) next) (at ceilings i)
          same i h = ap (λ (n : ℕ). leb n (at ceilings i)) (sum i h)

          high : (i : ℕ) → n < i → i ≤ m → leb (at amounts i - at old i + at new i) (at ceilings i) ≡ true
          high i above h = same i (omega arith) ∙ le-leb (over_jobs (f i) next) (at ceilings i) (omega (arith, none i above))

      -- and the entry above its ceiling by the most is that within the count
      abbrev excess : ℕ → ℕ
      excess i = over_jobs (f i) next - at ceilings i

      greatest_after_lem : greatest_after m amounts old new ceilings ≡ record { row = (greatest n excess).0; excess = (greatest n excess).1 }
      unfolding greatest_after
      greatest_after_lem =
          ap (λ (w : ℕ × ℕ). record { row = w.0; excess = w.1 })
          (greatest_lanes m n _ excess low (λ i h. omega (arith, sum i (omega arith))) (λ i above h. omega (arith, sum i (omega arith), none i above)))

    module _ (old new : Stage) (e : Exchange p js next old new) where
      -- the row test gives the row and the excess of the definition
      pub worst_exchanged : worst_after (sums_of p js).rows old.weight new.weight p.bound ≡ record { row = (worst_row p next).0; excess = (worst_row p next).1 }
      unfolding sums_of worst_row
      worst_exchanged =
          greatest_after_lem max_rows p.rows (weight_of p) old.weight new.weight p.bound sound.rows e.rows weight_beyond

      pub kept_exchanged : kept_after (sums_of p js) old new (ceilings_of p) ≡ kept_answer (exceeded p next) (broken p next)
      unfolding kept_after sums_of exceeded
      kept_exchanged =
          ap₂ kept_answer
          (lowest_after_lem max_resources p.resources (demand_of p) old.demand new.demand p.capacity sound.resources.1 e.units demand_beyond)
          (ap (λ (w : WorstRow). w.row) worst_exchanged)

-- so the row test says of the jobs afterwards what it says as worded
pub row_tested : (p : Plan) (js next : List Job) (s : Sums) (old new : Stage) (c : Ceilings) → RowTestApplies p js next s old new c
    → let r = worst_after s.rows old.weight new.weight c.bound in RowTest p next r.row r.excess
row_tested p js next s old new c h =
    rw (h.sums, h.ceilings)
    (subst⁻¹ (λ (r : WorstRow). RowTest p next r.row r.excess) (worst_exchanged p h.sound js next old new h.exchange) (row_test p next h.staged))

-- the two tests with what is equal
module _ {s s' : Sums} {c c' : Ceilings} (sums : s ≡ s') (ceilings : c ≡ c') where
  pub kept_same : {old old' : Stage} → old ≡ old' → (new : Stage) → kept_after s old new c ≡ kept_after s' old' new c'
  kept_same old new = λ i. kept_after (sums i) (old i) new (ceilings i)
