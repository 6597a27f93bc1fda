-- A weight is the one read where its stage stands in the bytes that are lent, and there is none at no stage and outside the rows. So the sums with one stage
-- exchanged for another give the excess of any row.
use Prim.Native.Nat.{ℕ, zero, suc, ◌+◌, ◌-◌, ◌*◌, ◌≤◌}
use native.Mathlib.Omega.{arith}
use mathlib.Core.Bool.{Bool, true, false, cond, ◌&&◌}
use mathlib.Core.List.{List}
use mathlib.Core.Logic.{◌≢◌, ⊎_elim}
use mathlib.Core.Path.{◌≡◌, refl, sym, ap, ◌∙◌}
use lib.Dec.{eqb, ltb}
use lib.ListN.{length, drop, length-take}
use Rattle.model.specs.Limits.{max_resources, max_rows, max_all_stages}
use Rattle.model.specs.Numbers.{InRange, at}
use Rattle.model.specs.Plan.{no_stage, weight_of, bound_of}
use Rattle.model.specs.Jobs.{over_jobs, job_of, removed}
use Rattle.model.specs.declared.Plan.{Plan}
use Rattle.model.specs.declared.Stage.{Stage}
use Rattle.model.specs.declared.Job.{Job}
use Rattle.model.proofs.Decide.{decided, decides_eq, decides_le, decides_range}
use Rattle.model.proofs.Lists.{zeros_at, every_each}
use Rattle.model.proofs.Sums.{over_jobs_zero}
use Rattle.events.specs.JobList.{jobs_of}
use Rattle.events.specs.Events.{jobs_after}
use Rattle.events.specs.declared.JobList.{JobList}
use Rattle.events.specs.declared.Event.{Event}
use Rattle.events.specs.declared.Event.TheVariants.{Load, Advance, Unload, Pull}
use Rattle.plan_bytes.specs.Over.{bytes_from, stage_size, stages_size, plan_read, plan_over, stage_at}
use Rattle.plan_bytes.specs.declared.Frame.{Frame}
use Rattle.plan_bytes.proofs.Nothing.{no_weight}
use Rattle.plan_bytes.proofs.Over as over
use Rattle.plan_bytes.proofs.Over.{over_none, over_there, at_other, at_over}
use Rattle.told_text.specs.EventMessage.{excess_after}
use Rattle.internals.specs.Internals.{tabulate, index_in, sums_of, Exchanged}
use Rattle.internals.specs.declared.Sums.{Sums}
use Rattle.internals.proofs.FixedWidth.{at_beyond, at_tabulate, length_tabulate}
use Rattle.internals.proofs.StageIndex.{stands}
use Rattle.table_excess.specs.Exchanges.{exchange_in}
use Rattle.table_excess.specs.declared.Exchange.{Exchange}
use Rattle.table_excess.proofs.SumAfter.{loaded_sum, advanced_sum, removed_sum}

-- what the stage at an index weighs in row w
abbrev weight_at : List ℕ → ℕ → ℕ → ℕ
weight_at bytes w i = at (stage_at bytes i).weight w

-- no stage weighs nothing, any stage weighs something in 32 rows at most, and outside these there is 0
none_weighs : (bytes : List ℕ) (w : ℕ) → weight_at bytes w max_all_stages ≡ 0
none_weighs bytes w =
    ap (λ (s : Stage). at s.weight w)
    (⊎_elim (λ (whole : length bytes ≡ stages_size). over.at_beyond bytes max_all_stages whole (omega arith)) (at_other bytes max_all_stages)
    (decided (decides_eq (length bytes) stages_size)))
    ∙ zeros_at max_rows w

few_weights : (bytes : List ℕ) (i : ℕ) → length (stage_at bytes i).weight ≤ max_rows
unfolding stage_at
few_weights bytes i = go (eqb (length bytes) stages_size && ltb i max_all_stages)
  where
    read : Stage
    read = record { demand = bytes_from (i * stage_size) max_resources bytes; weight = bytes_from (i * stage_size + max_resources) max_rows bytes }

    go : (b : Bool) → length (cond b read no_stage).weight ≤ max_rows
    go true = omega (arith, length-take max_rows (drop (i * stage_size + max_resources) bytes))
    go false = omega arith

outside : (xs : List ℕ) (w : ℕ) → length xs ≤ max_rows → (¬ InRange w max_rows) → at xs w ≡ 0
outside xs zero few h = refl
outside xs (suc w) few h =
    ⊎_elim (λ (k : suc w ≤ max_rows). absurd (h (omega arith, k))) (λ (k : ¬ (suc w ≤ max_rows)). at_beyond xs (suc w) (omega arith))
    (decided (decides_le (suc w) max_rows))

module _ (f : Frame) (bytes : List ℕ) (w : ℕ) where
  abbrev p : Plan
  p = plan_over f bytes

  abbrev index : ℕ → ℕ → ℕ
  index t k = index_in f.lengths f.types t k

  -- a weight, read where its stage stands
  weight_lent : (t k : ℕ) → weight_at bytes w (index t k) ≡ weight_of p w t k
  unfolding weight_of plan_over plan_read
  weight_lent t k =
      ⊎_elim
      (λ (whole : length bytes ≡ stages_size).
      ap (λ (s : Stage). at s.weight w) (sym (stands p (over_there f bytes) t k ∙ at_over bytes (index t k) whole f)))
      (λ (other : length bytes ≢ stages_size).
      ap (λ (s : Stage). at s.weight w) (at_other bytes (index t k) other)
      ∙ zeros_at max_rows w
      ∙ sym (ap (λ (q : Plan). weight_of q w t k) (over_none f bytes other) ∙ no_weight f w t k))
      (decided (decides_eq (length bytes) stages_size))

  -- type 0 has no stages
  nothing : (k : ℕ) → weight_of p w 0 k ≡ 0
  nothing k = sym (weight_lent 0 k) ∙ none_weighs bytes w

  -- the sum of the row
  row_sum : (js : List Job) → at (sums_of p js).rows w ≡ over_jobs (weight_of p w) js
  unfolding sums_of
  row_sum js = ⊎_elim (at_tabulate sums max_rows w) none (decided (decides_range w max_rows))
    where
      sums : ℕ → ℕ
      sums v = over_jobs (weight_of p v) js

      none : (¬ InRange w max_rows) → at (tabulate max_rows sums) w ≡ sums w
      none h =
          let weighs : (j : Job) → weight_of p w j.kind j.stage ≡ 0 =
          λ j. sym (weight_lent j.kind j.stage) ∙ outside _ w (few_weights bytes (index j.kind j.stage)) h in
          outside (tabulate max_rows sums) w (omega (arith, length_tabulate sums max_rows)) h
          ∙ sym (over_jobs_zero (weight_of p w) js (every_each _ weighs js))

  -- the weights that an event exchanges, read where the stages stand
  abbrev Read : List Job → List Job → ℕ → ℕ → Type 0
  Read js next old new = Exchanged (weight_of p w) js next (weight_at bytes w old) (weight_at bytes w new)

  removal : (n : ℕ) (js : List Job) → Read js (removed n js) (index (job_of n js).kind (job_of n js).stage) max_all_stages
  removal n js =
      let given_back = weight_lent (job_of n js).kind (job_of n js).stage in
      let gone = removed_sum (weight_of p w) nothing n js in
      (omega (arith, none_weighs bytes w), omega arith)

  exchanged : (js : List Job) (e : Event)
      → let x = exchange_in f.lengths f.types js e in Read js (jobs_after p js e) x.old x.new
  exchanged js (Load n t) =
      let taken = weight_lent t 1 in
      let come = loaded_sum (weight_of p w) n t js in
      (omega (arith, none_weighs bytes w), omega (arith, none_weighs bytes w))
  exchanged js (Advance n) =
      let given_back = weight_lent (job_of n js).kind (job_of n js).stage in
      let taken = weight_lent (job_of n js).kind ((job_of n js).stage + 1) in
      let moved = advanced_sum (weight_of p w) nothing n p js in
      (omega arith, omega arith)
  exchanged js (Unload n) = removal n js
  exchanged js (Pull n) = removal n js

  bound_lent : bound_of p w ≡ at f.bound w
  unfolding plan_over plan_read
  bound_lent = refl

  -- so the excess is that of what is read
  pub excess_read : (t : JobList) (e : Event) {s : Sums} {x : Exchange} {old new : List ℕ}
      → s ≡ sums_of p (jobs_of t) → x ≡ exchange_in f.lengths f.types (jobs_of t) e
      → old ≡ (stage_at bytes x.old).weight → new ≡ (stage_at bytes x.new).weight
      → at s.rows w - at old w + at new w - at f.bound w ≡ excess_after p t e w
  unfolding excess_after
  excess_read t e sums exchange left entered =
      let row = ap (λ (s : Sums). at s.rows w) sums in
      let given_back = ap (λ (xs : List ℕ). at xs w) left ∙ ap (λ (x : Exchange). weight_at bytes w x.old) exchange in
      let taken = ap (λ (xs : List ℕ). at xs w) entered ∙ ap (λ (x : Exchange). weight_at bytes w x.new) exchange in
      omega (arith, row_sum (jobs_of t), exchanged (jobs_of t) e, bound_lent)
