-- Lists of jobs: a number names one job of a list whose numbers differ, so an event's list is the one that the model
-- names; the tests on a list decide whether it agrees with the plan; and the row that is named is the one exceeded by the most.
use Prim.Native.Nat.{ℕ, ◌-◌, ◌≤◌, ◌<◌}
use native.Mathlib.Omega.{arith}
use mathlib.Core.Bool.{Bool, false, cond}
use mathlib.Core.List.{List, [], ◌∷◌, ◌++◌}
use mathlib.Core.Logic.{◌≢◌, ◌⊎◌, inl, inr, ⊎_elim, ⊎_map}
use mathlib.Core.Path.{◌≡◌, refl, sym, ap, subst, ◌∙◌}
use lib.Dec.{eqb, leb}
use lib.ListN.{length, length-append}
use borrow.Author.Tests.{eq-eqb, ne_eqb}
use Rattle.model.specs.Limits.{max_number, max_units, max_jobs, max_sum}
use Rattle.model.specs.Numbers.{InRange, Greatest, Each, Distinct}
use Rattle.model.specs.Plan.{capacity_of, bound_of, demand_of, weight_of, length_of}
use Rattle.model.specs.Jobs.{over_jobs, units_held, KeepsCapacities, KeepsRows, Exceeded, row_excess, Broken, RowTest, exceeded, excess_of, worst_row, broken, Active, is_active}
use Rattle.model.specs.Jobs.{job_of, advanced_job, advanced, removed, numbers, Numbered, AtStage, Agreeing, distinct, fits, agreeing}
use Rattle.model.specs.Soundness.{Sound}
use Rattle.model.specs.declared.Plan.{Plan}
use Rattle.model.specs.declared.Job.{Job}
use Rattle.model.proofs.Decide.{Decides, holding, failing, decides_iff, ◌and◌, decides_then, decides_or, decides_not}
use Rattle.model.proofs.Decide.{decides_le, decides_eq, decides_range, decides_each, decides_lowest, lowest_found, greatest_one, greatest_at_most, greatest_found, decides_greatest}
use Rattle.model.proofs.Lists.{split_at, split_first, split_later, append_each, each_at, each_removed, each_map, each_both}
use Rattle.model.proofs.Sums.{over_stages_jobs, over_jobs_most}

-- numbers that differ
each_number : (P : ℕ → Type 0) (xs : List Job) → Each P (numbers xs) → Each (λ (j : Job). P j.number) xs
each_number P [] h = tt
each_number P (x ∷ xs) h = (h.0, each_number P xs h.1)

number_each : (P : ℕ → Type 0) (xs : List Job) → Each (λ (j : Job). P j.number) xs → Each P (numbers xs)
number_each P [] h = tt
number_each P (x ∷ xs) h = (h.0, number_each P xs h.1)

-- the number is another than n
abbrev Other : ℕ → ℕ → Type 0
Other n m = m ≢ n

abbrev OtherJob : ℕ → Job → Type 0
OtherJob n j = j.number ≢ n

numbers_moved : (xs ys : List Job) (i j : Job) → i.number ≡ j.number → numbers (xs ++ i ∷ ys) ≡ numbers (xs ++ j ∷ ys)
numbers_moved [] ys i j e = ap (λ (n : ℕ). n ∷ numbers ys) e
numbers_moved (x ∷ xs) ys i j e = ap (λ (ns : List ℕ). x.number ∷ ns) (numbers_moved xs ys i j e)

pub distinct_moved : (xs ys : List Job) (i j : Job) → i.number ≡ j.number → Distinct (numbers (xs ++ i ∷ ys)) → Distinct (numbers (xs ++ j ∷ ys))
distinct_moved xs ys i j e h = subst Distinct (numbers_moved xs ys i j e) h

pub distinct_removed : (xs ys : List Job) (j : Job) → Distinct (numbers (xs ++ j ∷ ys)) → Distinct (numbers (xs ++ ys))
distinct_removed [] ys j h = h.1
distinct_removed (x ∷ xs) ys j h = (
  number_each (Other x.number) (xs ++ ys) (each_removed (OtherJob x.number) xs j ys (each_number (Other x.number) (xs ++ j ∷ ys) h.0)),
  distinct_removed xs ys j h.1,
)

active_later : {n : ℕ} {js : List Job} (x : Job) → Active n js → Active n (x ∷ js)
active_later x a = record { here = split_later x a.here; numbered = a.numbered }

pub distinct_added : (js : List Job) (j : Job) → (¬ Active j.number js) → Distinct (numbers js) → Distinct (numbers (js ++ j ∷ []))
distinct_added [] j n h = (tt, tt)
distinct_added (x ∷ js) j n h = (
  number_each (Other x.number) (js ++ j ∷ []) (append_each (OtherJob x.number) js (j ∷ []) (each_number (Other x.number) js h.0) (other, tt)),
  distinct_added js j (λ a. n (active_later x a)) h.1,
)
  where
    other : j.number ≢ x.number
    other e = n (record { here = split_first x js; numbered = sym e })

-- the job that a number names, and the lists after its advance and its removal
pub record FoundJob (p : Plan) (n : ℕ) (js : List Job) (a : Active n js) : Type 0 where
  pub job : job_of n js ≡ a.here.item
  pub advance : advanced p n js ≡ a.here.before ++ advanced_job p a.here.item ∷ a.here.after
  pub removal : removed n js ≡ a.here.before ++ a.here.after

found_at : (p : Plan) (xs : List Job) (j : Job) (ys : List Job) → Distinct (numbers (xs ++ j ∷ ys))
    → FoundJob p j.number (xs ++ j ∷ ys) (record { here = split_at xs j ys; numbered = refl })
found_at p [] j ys h =
    record {
      job = rw (eq-eqb j.number j.number refl) refl;
      advance = rw (eq-eqb j.number j.number refl) refl;
      removal = rw (eq-eqb j.number j.number refl) refl;
    }
found_at p (x ∷ xs) j ys h =
    let other = each_at (OtherJob x.number) xs j ys (each_number (Other x.number) (xs ++ j ∷ ys) h.0) in
    let miss : eqb x.number j.number ≡ false = ne_eqb x.number j.number (λ e. other (sym e)) in
    let rest = found_at p xs j ys h.1 in
    record {
      job = rw miss rest.job;
      advance = rw miss (ap (λ (js : List Job). x ∷ js) rest.advance);
      removal = rw miss (ap (λ (js : List Job). x ∷ js) rest.removal);
    }

pub found : (p : Plan) {n : ℕ} {js : List Job} (a : Active n js) → Distinct (numbers js) → FoundJob p n js a
found p {n} {js} a d =
    let f = found_at p a.here.before a.here.item a.here.after (subst (λ (js : List Job). Distinct (numbers js)) a.here.whole d) in
    record {
      job = rw (a.here.whole, ← a.numbered) f.job;
      advance = rw (a.here.whole, ← a.numbered) f.advance;
      removal = rw (a.here.whole, ← a.numbered) f.removal;
    }

-- a number is active where some job of the list has it
pub none_active : {n : ℕ} → ¬ Active n []
none_active a = let e = ap length a.here.whole in omega (arith, simp length-append at e)

active_cases : {n : ℕ} {j : Job} {js : List Job} → Active n (j ∷ js) → (j.number ≡ n) ⊎ Active n js
active_cases {n} {j} {js} a = go a.here.before a.here.whole
  where
    go : (xs : List Job) → j ∷ js ≡ xs ++ a.here.item ∷ a.here.after → (j.number ≡ n) ⊎ Active n js
    go [] e = let same : j ≡ a.here.item = cc in inl (ap (λ (i : Job). i.number) same ∙ a.numbered)
    go (x ∷ xs) e =
        let rest : js ≡ xs ++ a.here.item ∷ a.here.after = cc in
        inr (record { here = record { before = xs; item = a.here.item; after = a.here.after; whole = rest }; numbered = a.numbered })

pub active_here : {n : ℕ} {j : Job} (js : List Job) → j.number ≡ n → Active n (j ∷ js)
active_here {n} {j} js e = record { here = split_first j js; numbered = e }

pub decides_active : (n : ℕ) (js : List Job) → Decides (Active n js) (is_active n js)
decides_active n [] = failing none_active
decides_active n (j ∷ js) =
    decides_iff (⊎_elim (active_here js) (active_later j)) active_cases (decides_or (decides_eq j.number n) (decides_active n js))

-- the tests on a list decide its conditions
-- where numbers differ, none is active once its job is removed
pub removed_inactive : (n : ℕ) (js : List Job) → Distinct (numbers js) → ¬ Active n (removed n js)
removed_inactive n [] d = none_active
removed_inactive n (j ∷ js) d = go (removed_inactive n js d.1) (decides_eq j.number n)
  where
    others : j.number ≡ n → ¬ Active n js
    others e a =
        each_at (OtherJob j.number) a.here.before a.here.item a.here.after
        (subst (Each (OtherJob j.number)) a.here.whole (each_number (Other j.number) js d.0)) (a.numbered ∙ sym e)

    go : (¬ Active n (removed n js)) → {b : Bool} → Decides (j.number ≡ n) b → ¬ Active n (cond b js (j ∷ removed n js))
    go later (holding e) a = others e a
    go later (failing ne) a = ⊎_elim ne later (active_cases a)

pub decides_distinct : (ns : List ℕ) → Decides (Distinct ns) (distinct ns)
decides_distinct [] = holding tt
decides_distinct (n ∷ ns) = decides_each (λ m. decides_not (decides_eq m n)) ns and decides_distinct ns

pub decides_fits : (p : Plan) (j : Job) → Decides (Numbered j × AtStage p j) (fits p.types p.lengths j)
unfolding fits
decides_fits p j =
    decides_iff (λ h. (h.0.0, (h.0.1, h.1))) (λ h. ((h.0, h.1.0), h.1.1))
    (decides_range j.number max_number and decides_range j.kind p.types and decides_range j.stage (length_of p j.kind))

-- capacities and rows: the sum over stages is tested by the sum over jobs
module _ (p : Plan) (js : List Job) (staged : Each (AtStage p) js) where
  decides_unit : (r : ℕ) → Decides (units_held p r js ≤ capacity_of p r) (leb (over_jobs (demand_of p r) js) (capacity_of p r))
  decides_unit r = rw (over_stages_jobs p (demand_of p r) js staged) (decides_le (over_jobs (demand_of p r) js) (capacity_of p r))

  pub decides_capacities : Decides (KeepsCapacities p js) (eqb (exceeded p js) 0)
  unfolding exceeded
  decides_capacities = decides_lowest _ _ p.resources (λ r h. decides_unit r)

  pub lowest_exceeded : (¬ KeepsCapacities p js) → Exceeded p js (exceeded p js)
  unfolding exceeded
  lowest_exceeded = lowest_found _ _ p.resources (λ r h. decides_unit r)

  pub excess : (w : ℕ) → row_excess p w js ≡ excess_of p js w
  excess w = ap (λ (n : ℕ). n - bound_of p w) (over_stages_jobs p (weight_of p w) js staged)

  pub decides_rows : Decides (KeepsRows p js) (eqb (broken p js) 0)
  unfolding worst_row
  decides_rows = decides_greatest (excess_of p js) p.rows _ (λ w h. (λ k. omega (arith, excess w), λ e. omega (arith, excess w)))

  -- the row and the excess found are those of the row test as worded
  pub row_test : RowTest p js (worst_row p js).0 (worst_row p js).1
  unfolding worst_row
  row_test = ⊎_map (λ none. (λ v r. omega (arith, none.0 v r, excess v), none.1, none.2)) found (greatest_found (excess_of p js) p.rows)
    where
      w : ℕ
      w = broken p js

      found : Greatest p.rows (excess_of p js) w × ((worst_row p js).1 ≡ excess_of p js w) × (0 < excess_of p js w)
          → Broken p js w × ((worst_row p js).1 ≡ row_excess p w js)
      found (most, same, above) = (
        (
          omega (arith, excess w),
          record {
            within = most.within;
            most = λ v r. omega (arith, most.most v r, excess v, excess w);
            below = λ v low high. omega (arith, most.below v low high, excess v, excess w);
          },
        ),
        same ∙ sym (excess w),
      )

  -- so the row that is named is the one worded, and no other is
  pub worst_broken : (¬ KeepsRows p js) → Broken p js (broken p js)
  worst_broken h = ⊎_elim (λ kept. absurd (h kept.0)) (λ told. told.0) row_test

  pub broken_one : (w : ℕ) → Broken p js w → w ≡ broken p js
  broken_one w h = greatest_one _ w (broken p js) h.1 (worst_broken (λ keeps. omega (arith, keeps w h.1.within, h.0))).1

-- a job weighs at most 255 in a row, so 64 jobs come to 16,320, and no excess is above that
module _ (p : Plan) (sound : Sound p) where
  pub weight_most : (w : ℕ) → InRange w p.rows → (j : Job) → AtStage p j → weight_of p w j.kind j.stage ≤ max_units
  weight_most w row j s = (sound.stages j.kind j.stage s).weights w row

  pub excess_most : (js : List Job) → Each (AtStage p) js → length js ≤ max_jobs → (worst_row p js).1 ≤ max_sum
  unfolding worst_row
  excess_most js staged few =
      greatest_at_most (excess_of p js) p.rows max_sum
      (λ w row. omega (arith, over_jobs_most (weight_of p w) js (each_map (AtStage p) _ (weight_most w row) js staged)))

pub decides_agreeing : (p : Plan) (js : List Job) → Decides (Agreeing p js) (agreeing p js)
unfolding agreeing
decides_agreeing p js =
    let listed = decides_each (decides_fits p) js and decides_distinct (numbers js) in
    let below-capacities = decides_then listed (λ h. decides_capacities p js (staged h.0)) in
    decides_iff whole parts (decides_then below-capacities (λ h. decides_rows p js (staged h.0.0)))
  where
    Fitting : Type 0
    Fitting = Each (λ (j : Job). Numbered j × AtStage p j) js

    staged : Fitting → Each (AtStage p) js
    staged h = each_map (λ (j : Job). Numbered j × AtStage p j) (AtStage p) (λ j k. k.1) js h

    Parts : Type 0
    Parts = ((Fitting × Distinct (numbers js)) × KeepsCapacities p js) × KeepsRows p js

    whole : Parts → Agreeing p js
    whole h =
        record {
          numbered = each_map (λ (j : Job). Numbered j × AtStage p j) Numbered (λ j k. k.0) js h.0.0.0;
          distinct = h.0.0.1;
          staged = staged h.0.0.0;
          capacities = h.0.1;
          rows = h.1;
        }

    parts : Agreeing p js → Parts
    parts h = (((each_both Numbered (AtStage p) js h.numbered h.staged, h.distinct), h.capacities), h.rows)
