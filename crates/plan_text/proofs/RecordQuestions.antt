-- Questions 5 and 6 of a record: the tests decide what is asked, since a plan so far has what the records before say, what is held
-- under a key is there exactly when a record with that key was read, and the stages of all types add up.
use Prim.Native.Nat.{ℕ, ◌+◌, ◌≤◌, ◌<◌}
use native.Mathlib.Omega.{arith}
use mathlib.Core.List.{List, [], ◌∷◌}
use mathlib.Core.Logic.{◌≢◌, ◌⊎◌, inl, inr, ⊎_elim, ◌↔◌}
use mathlib.Core.Path.{◌≡◌, refl, sym, ap, subst, ◌∙◌}
use lib.Dec.{eqb}
use lib.ListN.{get_or}
use borrow.Author.Tests.{eq-eqb, ne_eqb}
use Rattle.model.specs.Limits.{max_types, max_all_stages}
use Rattle.model.specs.Numbers.{InRange, at, sum_to, Each}
use Rattle.model.specs.Plan.{empty_plan, all_stages, bound_of, stage_of}
use Rattle.model.specs.declared.Plan.{Plan}
use Rattle.model.proofs.Decide.{Decides, holding, failing, decided, decides_iff, decides_eq, decides_le, ◌and◌}
use Rattle.plan_text.specs.Records.{Field, between, resource, kind, row, stage, units, layout_of, numbers_of, key_of, Some, Has, sections}
use Rattle.plan_text.specs.RecordTests.{Known, known_of, fits_fields, lowest_in, highest_in, in_ranges}
use Rattle.plan_text.specs.Draft.{Draft, empty_draft, held_in}
use Rattle.plan_text.specs.TextQuestions.{IsResource, IsType, IsRow, IsStageOf, InField, InFields, InRanges, FirstWithKey, WithinTotal}
use Rattle.plan_text.specs.Reading.{within_total}
use Rattle.plan_text.specs.ReaderInternals.{FieldsInKnown, InKnown}
use Rattle.plan_text.specs.Meaning.{line, C}
use Rattle.plan_text.specs.declared.Record.{Record}
use Rattle.plan_text.proofs.RecordLists.{each_some, none_each, each_none, some_map, has_each, sum_beyond}
use Rattle.plan_text.proofs.Sections.{of_section_lem, one_of_seven, Blank}
use Rattle.plan_text.proofs.Kept.{Entry, Bounded, demand_half, weight_half, InSlot, Ranged, Kept, found_at}
use Rattle.plan_text.proofs.KeptAfter.{counts_fit}

-- 5: the ranges of the fields
module _ (k : Known) where
  decides_fields : (before : ℕ) (fs : List Field) (xs : List ℕ) → Decides (FieldsInKnown k before fs xs) (fits_fields k before fs xs)
  decides_fields before [] xs = holding tt
  decides_fields before (f ∷ fs) [] = failing (λ h. h)
  decides_fields before (f ∷ fs) (x ∷ xs) = (decides_le (lowest_in f) x and decides_le x (highest_in k before f)) and decides_fields x fs xs

  pub decides_ranges : (r : Record) → Decides (InKnown k r) (in_ranges k r)
  unfolding in_ranges
  decides_ranges r = decides_fields 0 (layout_of r.section) (numbers_of r)

-- what a plan so far has is what the records before say
module _ (rs : List Record) (d : Draft) (kept : Kept rs d) where
  pub counted : (of : Plan → ℕ) → of empty_plan ≡ 0 → 1 ≤ of d.plan → Has rs (C d.plan.resources d.plan.types d.plan.rows)
  unfolding empty_draft
  counted of none some =
      kept.counted
      (⊎_elim (λ (e : d.section ≡ 0). absurd (omega (arith, ap (λ (c : Draft). of c.plan) (kept.fresh e).1, none, some)))
      (λ (ne : ¬ (d.section ≡ 0)). omega (arith, ne))
      (decided (decides_eq d.section 0)))

  -- up to a count, which C says
  count_told : (of : Plan → ℕ) (in-record : ℕ → ℕ → ℕ → ℕ) → of empty_plan ≡ 0
      → of d.plan ≡ in-record d.plan.resources d.plan.types d.plan.rows
      → (x : ℕ) → InRange x (of d.plan) ↔ ((a b c : ℕ) × Has rs (C a b c) × InRange x (in-record a b c))
  count_told of in-record none is x = (
    λ h. (_, _, _, counted of none (omega (arith, h)), (h.0, omega (arith, h, is))),
    λ h.
        let e = kept.one_count h.0 h.1 h.2 h.3 in
        let same : in-record h.0 h.1 h.2 ≡ of d.plan = (λ i. in-record (e.0 i) (e.1 i) (e.2 i)) ∙ sym is in
        (h.4.0, omega (arith, h.4, same)),
  )

  pub resource_told : (x : ℕ) → InRange x d.plan.resources ↔ IsResource rs x
  unfolding empty_plan
  resource_told = count_told (λ p. p.resources) (λ a b c. a) refl refl

  pub type_told : (x : ℕ) → InRange x d.plan.types ↔ IsType rs x
  unfolding empty_plan
  type_told = count_told (λ p. p.types) (λ a b c. b) refl refl

  pub row_told : (x : ℕ) → InRange x d.plan.rows ↔ IsRow rs x
  unfolding empty_plan
  row_told = count_told (λ p. p.rows) (λ a b c. c) refl refl

  -- up to an entry of a list, which a record says
  entry_told : (n : ℕ) (xs : List ℕ) → ((i v : ℕ) → Entry xs i v ↔ Has rs (line n i v 0 0))
      → (i x : ℕ) → InRange x (at xs i) ↔ ((v : ℕ) × Has rs (line n i v 0 0) × InRange x v)
  entry_told n xs held i x = (
    λ h. (at xs i, (held i (at xs i)).0 (omega (arith, h), refl), h),
    λ h. let e = (held i h.0).1 h.1 in (h.2.0, omega (arith, h.2, e.1)),
  )

  pub stage_told : (t k : ℕ) → InRange k (at d.plan.lengths t) ↔ IsStageOf rs t k
  stage_told = entry_told 3 d.plan.lengths kept.lengths

  field_told : (before : ℕ) (f : Field) (x : ℕ) → ((lowest_in f ≤ x) × (x ≤ highest_in (known_of d.plan) before f)) ↔ InField rs before f x
  field_told before (between low high) x = (λ h. h, λ h. h)
  field_told before resource x = resource_told x
  field_told before kind x = type_told x
  field_told before row x = row_told x
  field_told before stage x = stage_told before x
  field_told before units x = entry_told 2 d.plan.capacity kept.capacities before x

  fields_told : (before : ℕ) (fs : List Field) (xs : List ℕ) → FieldsInKnown (known_of d.plan) before fs xs ↔ InFields rs before fs xs
  fields_told before [] xs = (λ h. h, λ h. h)
  fields_told before (f ∷ fs) [] = (λ h. h, λ h. h)
  fields_told before (f ∷ fs) (x ∷ xs) = (
    λ h. ((field_told before f x).0 h.0, (fields_told x fs xs).0 h.1),
    λ h. ((field_told before f x).1 h.0, (fields_told x fs xs).1 h.1),
  )

  -- so a number is in range by the plan so far exactly when it is by the records
  pub ranges_told : (r : Record) → InKnown (known_of d.plan) r ↔ InRanges rs r
  ranges_told r = fields_told 0 (layout_of r.section) (numbers_of r)

  pub decides_in_ranges : (r : Record) → Decides (InRanges rs r) (in_ranges (known_of d.plan) r)
  decides_in_ranges r = decides_iff (ranges_told r).0 (ranges_told r).1 (decides_ranges (known_of d.plan) r)

-- 6: under the key of a record, of which x is held, stands a value or none
module _ {K : Type 0} (of : K → ℕ → Record) (Here : K → ℕ → Type 0) (rs : List Record) (known : Known) (ranged : Each (Ranged known) rs)
    (held : (key : K) (v : ℕ) → Here key v ↔ Has rs (of key v)) (key : K) (r : Record) (x : ℕ)
    (none : x ≡ 0 → (v : ℕ) → ¬ Here key v) (some : x ≢ 0 → (v : ℕ) × Here key v) (keyed : (v : ℕ) → key_of (of key v) ≡ key_of r)
    (shape : (q : Record) → Ranged known q → key_of q ≡ key_of r → (v : ℕ) × (q ≡ of key v)) where
  decides_key : Decides (FirstWithKey rs r) (eqb x 0)
  decides_key = decides_iff there back (decides_eq x 0)
    where
      there : x ≡ 0 → FirstWithKey rs r
      there e = none_each (λ q. key_of q ≡ key_of r) rs clash
        where
          clash : ¬ Some (λ q. key_of q ≡ key_of r) rs
          clash h =
              let found = each_some (λ q. key_of q ≡ key_of r) (Ranged known) rs ranged h in
              let made = shape found.0 found.1 found.2 in
              none e made.0 ((held key made.0).1 (subst (Has rs) made.1 found.3))

      back : FirstWithKey rs r → x ≡ 0
      back first = ⊎_elim (λ (e : x ≡ 0). e) (λ (ne : ¬ (x ≡ 0)). absurd (taken ne)) (decided (decides_eq x 0))
        where
          taken : x ≢ 0 → ⊥
          taken ne =
              let v = some ne in
              each_none (λ q. key_of q ≡ key_of r) rs first
              (some_map (λ q. q ≡ of key v.0) (λ q. key_of q ≡ key_of r) (λ q e. ap key_of e ∙ keyed v.0) rs ((held key v.0).0 v.1))

-- records of one key: those with one number and a value, and those with three
module _ (n : ℕ) (q : Record) (key : List ℕ) (e : key_of q ≡ n ∷ key) where
  section_same : q.section ≡ n
  section_same = ap (λ (xs : List ℕ). get_or xs 0 0) e

  key_at : key_of (line n q.first q.second q.third q.fourth) ≡ n ∷ key
  key_at = ap key_of (sym (of_section_lem n q section_same)) ∙ e

pair_made : (n a : ℕ) → ((x y z w : ℕ) → key_of (line n x y z w) ≡ n ∷ x ∷ []) → ((x y z w : ℕ) → Blank (line n x y z w) → (z ≡ 0) × (w ≡ 0))
    → (known : Known) (q : Record) → Ranged known q → key_of q ≡ n ∷ a ∷ [] → (v : ℕ) × (q ≡ line n a v 0 0)
pair_made n a keys blanks known q ranged e =
    let is = section_same n q (a ∷ []) e in
    let same = ap (λ (xs : List ℕ). get_or xs 1 0) (sym (keys q.first q.second q.third q.fourth) ∙ key_at n q (a ∷ []) e) in
    let z = blanks q.first q.second q.third q.fourth (subst Blank (of_section_lem n q is) ranged.blank) in
    (q.second, of_section_lem n q is ∙ (λ i. line n (same i) q.second (z.0 i) (z.1 i)))

triple_made : (n a b c : ℕ) → ((x y z w : ℕ) → key_of (line n x y z w) ≡ n ∷ x ∷ y ∷ z ∷ [])
    → (known : Known) (q : Record) → Ranged known q → key_of q ≡ n ∷ a ∷ b ∷ c ∷ [] → (v : ℕ) × (q ≡ line n a b c v)
triple_made n a b c keys known q ranged e =
    let is = section_same n q (a ∷ b ∷ c ∷ []) e in
    let same = sym (keys q.first q.second q.third q.fourth) ∙ key_at n q (a ∷ b ∷ c ∷ []) e in
    let x = ap (λ (xs : List ℕ). get_or xs 1 0) same in
    let y = ap (λ (xs : List ℕ). get_or xs 2 0) same in
    let z = ap (λ (xs : List ℕ). get_or xs 3 0) same in
    (q.fourth, of_section_lem n q is ∙ (λ i. line n (x i) (y i) (z i) q.fourth))

module _ (rs : List Record) (d : Draft) (kept : Kept rs d) where
  abbrev known : Known
  known = known_of d.plan

  -- a list's entry
  decides_entry : (n : ℕ) (xs : List ℕ) → ((i v : ℕ) → Entry xs i v ↔ Has rs (line n i v 0 0))
      → ((x y z w : ℕ) → key_of (line n x y z w) ≡ n ∷ x ∷ []) → ((x y z w : ℕ) → Blank (line n x y z w) → (z ≡ 0) × (w ≡ 0))
      → (a b c e : ℕ) → Decides (FirstWithKey rs (line n a b c e)) (eqb (at xs a) 0)
  decides_entry n xs held keys blanks a b c e =
      decides_key (λ i v. line n i v 0 0) (Entry xs) rs known kept.ranged held a (line n a b c e) (at xs a)
      (λ z v h. omega (arith, h)) (λ ne. (at xs a, (omega (arith, ne), refl))) (λ v. keys a v 0 0 ∙ sym (keys a b c e))
      (λ q ranged same. pair_made n a keys blanks known q ranged (same ∙ keys a b c e))

  decides_counts : (a b c e : ℕ) → Decides (FirstWithKey rs (line 1 a b c e)) (eqb d.section 0)
  decides_counts a b c e = decides_iff there back (decides_eq d.section 0)
    where
      there : d.section ≡ 0 → FirstWithKey rs (line 1 a b c e)
      there z = rw (kept.fresh z).0 tt

      back : FirstWithKey rs (line 1 a b c e) → d.section ≡ 0
      back first = ⊎_elim (λ (z : d.section ≡ 0). z) (λ (ne : ¬ (d.section ≡ 0)). absurd (taken ne)) (decided (decides_eq d.section 0))
        where
          taken : d.section ≢ 0 → ⊥
          taken ne =
              let counts = line 1 d.plan.resources d.plan.types d.plan.rows 0 in
              each_none (λ q. key_of q ≡ 1 ∷ []) rs first
              (some_map (λ q. q ≡ counts) (λ q. key_of q ≡ 1 ∷ []) (λ q same. ap key_of same) rs (kept.counted (omega (arith, ne))))

  decides_bound : (a b c e : ℕ) → Decides (FirstWithKey rs (line 5 a b c e)) (eqb (at d.bounded a) 0)
  decides_bound a b c e =
      decides_key (λ i v. line 5 i v 0 0) (Bounded d.bounded d.plan.bound) rs known kept.ranged kept.bounds a (line 5 a b c e)
      (at d.bounded a) (λ z v h. omega (arith, h))
      (λ ne. (bound_of d.plan a, (⊎_elim (λ (m : at d.bounded a ≡ 1). m) (λ m. absurd (ne m.0)) (kept.flags a), refl))) (λ v. refl)
      (λ q ranged same. pair_made 5 a (λ x y z w. refl) (λ x y z w h. (h.0, h.1.0)) known q ranged same)

  -- a stage's entry
  decides_demand : (a b c e : ℕ) → InKnown known (line 4 a b c e) → Decides (FirstWithKey rs (line 4 a b c e)) (eqb (held_in d (line 4 a b c e)) 0)
  unfolding held_in
  decides_demand a b c e fit =
      let here = found_at rs d kept (line 4 a b c e) (inl refl) (fit.0, fit.1.0) in
      rw here
      (decides_key demand_half.of (InSlot demand_half d.plan) rs known kept.ranged kept.demands (a, b, c) (line 4 a b c e)
      (at (stage_of d.plan a b).demand c) (λ z v h. omega (arith, h, z)) (λ ne. (_, (omega (arith, ne), refl))) (λ v. refl)
      (λ q ranged same. triple_made 4 a b c (λ x y z w. refl) known q ranged same))

  decides_weight : (a b c e : ℕ) → InKnown known (line 6 a b c e) → Decides (FirstWithKey rs (line 6 a b c e)) (eqb (held_in d (line 6 a b c e)) 0)
  unfolding held_in
  decides_weight a b c e fit =
      let here = found_at rs d kept (line 6 a b c e) (inr refl) (fit.1.0, fit.1.1.0) in
      rw here
      (decides_key weight_half.of (InSlot weight_half d.plan) rs known kept.ranged kept.weights (b, c, a) (line 6 a b c e)
      (at (stage_of d.plan b c).weight a) (λ z v h. omega (arith, h, z)) (λ ne. (_, (omega (arith, ne), refl))) (λ v. refl)
      (λ q ranged same. triple_made 6 a b c (λ x y z w. refl) known q ranged same))

  pub decides_first : (r : Record) → InRange r.section sections → InKnown known r → Decides (FirstWithKey rs r) (eqb (held_in d r) 0)
  unfolding held_in
  decides_first r section fit =
      one_of_seven (λ n. r.section ≡ n → Decides (FirstWithKey rs r) (eqb (held_in d r) 0))
      (λ e. at_section 1 e (decides_counts r.first r.second r.third r.fourth))
      (λ e.
      at_section 2 e
      (decides_entry 2 d.plan.capacity kept.capacities (λ x y z w. refl) (λ x y z w h. (h.0, h.1.0)) r.first r.second r.third r.fourth))
      (λ e.
      at_section 3 e
      (decides_entry 3 d.plan.lengths kept.lengths (λ x y z w. refl) (λ x y z w h. (h.0, h.1.0)) r.first r.second r.third r.fourth))
      (λ e. at_section 4 e (decides_demand r.first r.second r.third r.fourth (fit_at 4 e)))
      (λ e. at_section 5 e (decides_bound r.first r.second r.third r.fourth))
      (λ e. at_section 6 e (decides_weight r.first r.second r.third r.fourth (fit_at 6 e)))
      (λ e.
      at_section 7 e
      (decides_entry 7 d.plan.rank kept.ranks (λ x y z w. refl) (λ x y z w h. (h.0, h.1.0)) r.first r.second r.third r.fourth))
      r.section section refl
    where
      fit_at : (n : ℕ) → r.section ≡ n → InKnown known (line n r.first r.second r.third r.fourth)
      fit_at n e = subst (InKnown known) (of_section_lem n r e) fit

      at_section : (n : ℕ) → r.section ≡ n
          → (let q = line n r.first r.second r.third r.fourth in Decides (FirstWithKey rs q) (eqb (held_in d q) 0))
          → Decides (FirstWithKey rs r) (eqb (held_in d r) 0)
      at_section n e h = subst (λ q. Decides (FirstWithKey rs q) (eqb (held_in d q) 0)) (sym (of_section_lem n r e)) h

module _ (rs : List Record) (d : Draft) (kept : Kept rs d) where
  -- only types of the plan have stages
  pub no_more_types : (t : ℕ) → d.plan.types < t → at d.plan.lengths t ≡ 0
  no_more_types t h =
      ⊎_elim (λ (e : at d.plan.lengths t ≡ 0). e) (λ ne. absurd (beyond ne)) (decided (decides_eq (at d.plan.lengths t) 0))
    where
      beyond : ¬ (at d.plan.lengths t ≡ 0) → ⊥
      beyond ne =
          let there = (kept.lengths t (at d.plan.lengths t)).0 (omega (arith, ne), refl) in
          let fit = (has_each (Ranged (known_of d.plan)) rs _ kept.ranged there).ranges in
          omega (arith, fit.0)

  pub total_of : d.plan.types ≤ max_types → sum_to max_types (at d.plan.lengths) ≡ all_stages d.plan
  unfolding all_stages
  total_of h = sum_beyond (at d.plan.lengths) d.plan.types max_types h no_more_types

  -- 5 of all types together: the stages add up
  pub decides_total : (r : Record) → (1 ≤ d.section) ⊎ (r.section ≡ 1) → Decides (WithinTotal rs r) (within_total d.plan.lengths r)
  decides_total r past =
      ⊎_elim
      (λ (e : r.section ≡ 3).
      let counts = counts_fit rs d kept (⊎_elim (λ (h : 1 ≤ d.section). h) (λ (f : r.section ≡ 1). absurd (omega arith)) past) in
      let before = total_of counts.1.1 in
      rw (eq-eqb r.section 3 e)
      (decides_iff (λ h. omega (arith, before, kept.summed)) (λ h. omega (arith, before, kept.summed))
      (decides_le (sum_to max_types (at d.plan.lengths) + r.second) max_all_stages)))
      (λ (ne : ¬ (r.section ≡ 3)). rw (ne_eqb r.section 3 ne) (holding (omega (arith, kept.summed, kept.total))))
      (decided (decides_eq r.section 3))
