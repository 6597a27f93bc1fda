-- Records say a plan whole: two sound plans that the same records say are equal, since every entry is told by the records.
use Prim.Native.Nat.{ℕ, zero, suc, ◌+◌, ◌-◌, ◌≤◌, ◌<◌}
use native.Mathlib.Numerals.{sub-one}
use native.Mathlib.Omega.{arith}
use mathlib.Core.List.{List}
use mathlib.Core.Logic.{⊎_elim, ◌↔◌}
use mathlib.Core.Path.{◌≡◌, refl, sym, ap, ◌∙◌}
use lib.ListN.{length, get_or}
use lib.Seq.{ext_get_or}
use Rattle.model.specs.Numbers.{InRange, at, sum_to}
use Rattle.model.specs.Plan.{no_stage, capacity_of, rank_of, bound_of, length_of, IsStage, all_stages, stage_of, demand_of, weight_of}
use Rattle.model.specs.Soundness.{ZeroBeyond, Sound}
use Rattle.model.specs.declared.Plan.{Plan}
use Rattle.model.proofs.Decide.{decided, decides_eq, decides_le}
use Rattle.plan_text.specs.Lines.{lines_of}
use Rattle.plan_text.specs.Records.{Has}
use Rattle.plan_text.specs.TextQuestions.{text_number, records_of}
use Rattle.plan_text.specs.Reading.{reading}
use Rattle.plan_text.specs.Meaning.{R, T, S, B, A, K, RecordsSaySoFar, RecordsSay, Sized, SameRecords}
use Rattle.plan_text.specs.declared.Record.{Record}
use Rattle.plan_text.proofs.StageWritten.{stage_here}
use Rattle.plan_text.proofs.RecordsSay.{records_say, records_sized}
use Rattle.plan_text.proofs.AcceptedText.{accepted_whole, accepted_sound}

-- every index below the stages of n types is that of a stage
module _ (len : ℕ → ℕ) where
  pub stage_of_index : (n i : ℕ) → i < sum_to n len → (t k : ℕ) × InRange t n × InRange k (len t) × (sum_to (t - 1) len + (k - 1) ≡ i)
  stage_of_index zero i h = absurd (omega arith)
  stage_of_index (suc n) i h =
      ⊎_elim
      (λ (low : suc i ≤ sum_to n len).
      let found = stage_of_index n i low in
      (found.0, found.1, (found.2.0, omega (arith, found.2)), found.3, found.4))
      (λ (high : ¬ (suc i ≤ sum_to n len)). (
        suc n,
        i - sum_to n len + 1,
        (omega arith, omega arith),
        (omega arith, omega arith),
        rw sub-one (omega arith),
      ))
      (decided (decides_le (suc i) (sum_to n len)))

-- one value, and two, told by the same records
pub told : (x y : ℕ) → ((v : ℕ) → 1 ≤ v → x ≡ v → y ≡ v) → ((v : ℕ) → 1 ≤ v → y ≡ v → x ≡ v) → x ≡ y
told x y there back =
    ⊎_elim
    (λ (e : x ≡ 0).
    ⊎_elim (λ (f : y ≡ 0). omega arith) (λ (ne : ¬ (y ≡ 0)). back y (omega (arith, ne)) refl) (decided (decides_eq y 0)))
    (λ (ne : ¬ (x ≡ 0)). sym (there x (omega (arith, ne)) refl))
    (decided (decides_eq x 0))

-- entries of two lists that are all 0
zeros_alike : (xs ys : List ℕ) → ZeroBeyond 0 xs → ZeroBeyond 0 ys → (i : ℕ) → at xs i ≡ at ys i
zeros_alike xs ys none nothing zero = refl
zeros_alike xs ys none nothing (suc i) = none (suc i) (omega arith) ∙ sym (nothing (suc i) (omega arith))

-- lists are equal whose entries, counted from 1, are
lists_equal : (xs ys : List ℕ) → length xs ≡ length ys → ((i : ℕ) → at xs i ≡ at ys i) → xs ≡ ys
lists_equal xs ys size same = ext_get_or 0 xs ys size (λ i h. same (suc i))

-- two sound plans that the same records say
module _ (rs : List Record) (p q : Plan) (sized : Sized p) (as-sized : Sized q) (sound : Sound p) (as-sound : Sound q) (says : RecordsSaySoFar rs p)
    (too : RecordsSaySoFar rs q) where
  counts_told : (p.resources ≡ q.resources) × (p.types ≡ q.types) × (p.rows ≡ q.rows)
  counts_told = let some = as-sound.resources.0 in (says.counts _ _ _ some).1 ((too.counts _ _ _ some).0 (refl, refl, refl))

  -- a value under each key
  entries_told : {K : Type 0} (of : K → ℕ → Record) (f g : K → ℕ) → ((i : K) (v : ℕ) → 1 ≤ v → (f i ≡ v) ↔ Has rs (of i v))
      → ((i : K) (v : ℕ) → 1 ≤ v → (g i ≡ v) ↔ Has rs (of i v)) → (i : K) → f i ≡ g i
  entries_told of f g held holds i =
      told (f i) (g i) (λ v h e. (holds i v h).1 ((held i v h).0 e)) (λ v h e. (held i v h).1 ((holds i v h).0 e))

  lengths_told : p.lengths ≡ q.lengths
  lengths_told = lists_equal _ _ (sized.lengths ∙ sym as-sized.lengths) (entries_told T (length_of p) (length_of q) says.lengths too.lengths)

  total_told : all_stages p ≡ all_stages q
  unfolding all_stages
  total_told = ap (λ n. sum_to n (at p.lengths)) counts_told.1 ∙ ap (λ xs. sum_to q.types (at xs)) lengths_told

  -- what the stages of the two plans demand and weigh
  demand_told : (t k r : ℕ) → demand_of p r t k ≡ demand_of q r t k
  demand_told t k r = entries_told (λ (i : ℕ) v. S t k i v) (λ i. demand_of p i t k) (λ i. demand_of q i t k) (says.demands t k) (too.demands t k) r

  weight_told : (t k w : ℕ) → weight_of p w t k ≡ weight_of q w t k
  weight_told t k w =
      entries_told (λ (i : ℕ) v. A i t k v) (λ i. weight_of p i t k) (λ i. weight_of q i t k) (λ i. says.weights i t k) (λ i. too.weights i t k) w

  -- the stage at an index of the first plan and of the second: lists of the same size with the same entries
  stage_same : (i : ℕ) → let s = get_or p.stages i no_stage in let z = get_or q.stages i no_stage in
      ((j : ℕ) → at s.demand j ≡ at z.demand j) → ((j : ℕ) → at s.weight j ≡ at z.weight j) → s ≡ z
  stage_same i demands weights =
      let demand = lists_equal _ _ (sized.demand i ∙ sym (as-sized.demand i)) demands in
      let weight = lists_equal _ _ (sized.weight i ∙ sym (as-sized.weight i)) weights in
      λ j. record { demand = demand j; weight = weight j }

  stage_told : (i : ℕ) → get_or p.stages i no_stage ≡ get_or q.stages i no_stage
  unfolding all_stages demand_of weight_of
  stage_told i = ⊎_elim here past (decided (decides_le (suc i) (all_stages p)))
    where
      past : ¬ (suc i ≤ all_stages p) → get_or p.stages i no_stage ≡ get_or q.stages i no_stage
      past h =
          let none = sound.no_more_stages (suc i) (omega arith) in
          let nothing = as-sound.no_more_stages (suc i) (omega (arith, total_told, h)) in
          stage_same i (zeros_alike _ _ none.0 nothing.0) (zeros_alike _ _ none.1 nothing.1)

      here : suc i ≤ all_stages p → get_or p.stages i no_stage ≡ get_or q.stages i no_stage
      here h =
          let found = stage_of_index (length_of p) p.types i h in
          let t = found.0 in
          let k = found.1 in
          let mine : IsStage p t k = (found.2, found.3) in
          let longest = ap (λ xs. at xs t) lengths_told in
          let yours : IsStage q t k = ((found.2.0, omega (arith, found.2, counts_told.1)), (found.3.0, omega (arith, found.3, longest))) in
          let left : stage_of p t k ≡ get_or p.stages i no_stage =
          stage_here p t k mine sound.total sized.stages no_stage ∙ ap (λ j. get_or p.stages j no_stage) found.4 in
          let index : sum_to (t - 1) (length_of q) + (k - 1) ≡ i = ap (λ xs. sum_to (t - 1) (at xs) + (k - 1)) (sym lengths_told) ∙ found.4 in
          let right : stage_of q t k ≡ get_or q.stages i no_stage =
          stage_here q t k yours as-sound.total as-sized.stages no_stage ∙ ap (λ j. get_or q.stages j no_stage) index in
          stage_same i (λ j. ap (λ s. at s.demand j) (sym left) ∙ demand_told t k j ∙ ap (λ s. at s.demand j) right)
          (λ j. ap (λ s. at s.weight j) (sym left) ∙ weight_told t k j ∙ ap (λ s. at s.weight j) right)

  pub says_whole : p ≡ q
  says_whole =
      let capacity = lists_equal _ _ (sized.capacity ∙ sym as-sized.capacity) (entries_told R (capacity_of p) (capacity_of q) says.capacities too.capacities) in
      let rank = lists_equal _ _ (sized.rank ∙ sym as-sized.rank) (entries_told K (rank_of p) (rank_of q) says.ranks too.ranks) in
      let bound = lists_equal _ _ (sized.bound ∙ sym as-sized.bound) (entries_told B (bound_of p) (bound_of q) says.bounds too.bounds) in
      let stages = ext_get_or no_stage p.stages q.stages (sized.stages ∙ sym as-sized.stages) (λ i h. stage_told i) in
      λ i. record {
        resources = counts_told.0 i;
        types = counts_told.1 i;
        rows = counts_told.2 i;
        capacity = capacity i;
        rank = rank i;
        bound = bound i;
        lengths = lengths_told i;
        stages = stages i;
      }

-- what is said with some records is said with the same records in another list
says_as : (rs qs : List Record) (p : Plan) → SameRecords rs qs → RecordsSaySoFar rs p → RecordsSaySoFar qs p
says_as rs qs p same says =
    record {
      counts = λ a b c h. through (says.counts a b c h) (same _);
      capacities = λ r v h. through (says.capacities r v h) (same _);
      lengths = λ t v h. through (says.lengths t v h) (same _);
      demands = λ t k r v h. through (says.demands t k r v h) (same _);
      bounds = λ w v h. through (says.bounds w v h) (same _);
      weights = λ w t k v h. through (says.weights w t k v h) (same _);
      ranks = λ r v h. through (says.ranks r v h) (same _);
    }
  where
    through : {P Q R : Type 0} → P ↔ Q → Q ↔ R → P ↔ R
    through a b = (λ x. b.0 (a.0 x), λ x. a.1 (b.1 x))

module _ (text : List ℕ) (zero-answered : text_number (reading text).answer ≡ 0) where
  -- an accepted text says its plan
  pub accepted_says : RecordsSay (records_of (lines_of text)) (reading text).plan
  accepted_says = let w = accepted_whole text zero-answered in rw w.handed (records_say _ w.kept w.complete)

  pub accepted_sized : Sized (reading text).plan
  accepted_sized = let w = accepted_whole text zero-answered in rw w.handed (records_sized _ w.kept)

-- two accepted texts with the same records have the same plan: the order within a section, comments, empty lines and leading
-- zeros do not matter
pub same_records_same_plan : (text other : List ℕ) → text_number (reading text).answer ≡ 0 → text_number (reading other).answer ≡ 0
    → SameRecords (records_of (lines_of text)) (records_of (lines_of other)) → (reading text).plan ≡ (reading other).plan
same_records_same_plan text other taken answered same =
    says_whole (records_of (lines_of other)) _ _ (accepted_sized text taken) (accepted_sized other answered) (accepted_sound text taken)
    (accepted_sound other answered) (says_as _ _ _ same (accepted_says text taken).so_far) (accepted_says other answered).so_far
