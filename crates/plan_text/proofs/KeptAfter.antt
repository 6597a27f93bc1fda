-- A draft after one record more: what is kept stays kept, family by family.
use Prim.Native.Nat.{ℕ, zero, suc, ◌+◌, ◌≤◌, ◌<◌}
use native.Mathlib.Nat.{le_refl}
use native.Mathlib.Omega.{arith}
use mathlib.Core.Bool.{cond}
use mathlib.Core.List.{List, [], ◌∷◌, ◌++◌}
use mathlib.Core.Logic.{◌↔◌, ◌≢◌, ◌⊎◌, inl, inr, ⊎_elim}
use mathlib.Core.Path.{◌≡◌, refl, sym, ap, subst, ◌∙◌}
use lib.Dec.{eqb}
use lib.ListN.{length, get_or, replicate}
use borrow.Author.Tests.{eq-eqb, ne_eqb}
use Rattle.model.specs.Limits.{max_resources, max_types, max_rows, max_all_stages}
use Rattle.model.specs.Numbers.{InRange, at}
use Rattle.model.specs.Plan.{no_stage, empty_plan, all_stages}
use Rattle.model.specs.declared.Plan.{Plan}
use Rattle.model.proofs.Decide.{decided, decides_eq}
use Rattle.model.proofs.Lists.{replicated, append_each, each_map}
use Rattle.plan_text.specs.Records.{Field, between, resource, kind, row, stage, units, layout_of, numbers_of, Has}
use Rattle.plan_text.specs.RecordTests.{Known, known_of, highest_in}
use Rattle.plan_text.specs.ReaderInternals.{FieldsInKnown, InKnown}
use Rattle.plan_text.specs.Draft.{Draft, empty_draft, entries_after, stage_here, draft_after, held_in}
use Rattle.plan_text.specs.TextQuestions.{last_section, stages_in}
use Rattle.plan_text.specs.Meaning.{line}
use Rattle.plan_text.specs.declared.Record.{Record}
use Rattle.plan_text.proofs.RecordLists.{some_append, append_left, append_right, has_each, put_other, sum_put, sum_beyond, stages_append}
use Rattle.plan_text.proofs.Sections.{of_section_lem, Blank}
use Rattle.plan_text.proofs.StageWritten.{blank_stage, stages_same}
use Rattle.plan_text.proofs.Kept.{Entry, demand_half, weight_half, Ranged, Kept, Taken, sizes_after, total_same}
use Rattle.plan_text.proofs.Kept.{Own, entries_held, bounds_held, flags_held, demand_laws, weight_laws, half_held, beyond_after}

-- what a plan has so far only grows, so a number in range stays in range
pub record Grows (k l : Known) : Type 0 where
  pub resources : k.resources ≤ l.resources
  pub types : k.types ≤ l.types
  pub rows : k.rows ≤ l.rows
  pub capacity : (i : ℕ) → at k.capacity i ≤ at l.capacity i
  pub lengths : (i : ℕ) → at k.lengths i ≤ at l.lengths i

module _ (k l : Known) (grows : Grows k l) where
  highest_grows : (before : ℕ) (f : Field) → highest_in k before f ≤ highest_in l before f
  highest_grows before (between low high) = le_refl high
  highest_grows before resource = grows.resources
  highest_grows before kind = grows.types
  highest_grows before row = grows.rows
  highest_grows before stage = grows.lengths before
  highest_grows before units = grows.capacity before

  fields_grow : (before : ℕ) (fs : List Field) (xs : List ℕ) → FieldsInKnown k before fs xs → FieldsInKnown l before fs xs
  fields_grow before [] xs h = tt
  fields_grow before (f ∷ fs) [] h = h
  fields_grow before (f ∷ fs) (x ∷ xs) h = ((h.0.0, omega (arith, h.0, highest_grows before f)), fields_grow x fs xs h.1)

  ranged_grows : (q : Record) → Ranged k q → Ranged l q
  ranged_grows q h =
      record { section = h.section; ranges = fields_grow 0 (layout_of q.section) (numbers_of q) h.ranges; blank = h.blank }

entries_grow : (n : ℕ) (xs : List ℕ) (r : Record) → (r.section ≡ n → (1 ≤ r.first) × (at xs r.first ≡ 0))
    → (i : ℕ) → at xs i ≤ at (entries_after n xs r) i
entries_grow n xs r own i =
    ⊎_elim
    (λ (e : r.section ≡ n).
    rw (eq-eqb r.section n e)
    (⊎_elim (λ (same : i ≡ r.first). omega (arith, ap (at xs) same, (own e).1))
    (λ (other : ¬ (i ≡ r.first)). rw (put_other xs r.first i r.second (own e).0 other) (le_refl (at xs i)))
    (decided (decides_eq i r.first))))
    (λ (ne : ¬ (r.section ≡ n)). rw (ne_eqb r.section n ne) (le_refl (at xs i)))
    (decided (decides_eq r.section n))

module _ (rs : List Record) (d : Draft) (kept : Kept rs d) where
  -- the counts of a plan that has its C
  pub counts_fit : 1 ≤ d.section → InRange d.plan.resources max_resources × InRange d.plan.types max_types × (d.plan.rows ≤ max_rows)
  counts_fit h =
      let counts = line 1 d.plan.resources d.plan.types d.plan.rows 0 in
      let fit = (has_each (Ranged (known_of d.plan)) rs counts kept.ranged (kept.counted h)).ranges in
      (fit.0, fit.1.0, fit.1.1.0.1)

  module _ (r : Record) (taken : Taken rs d r) where
    past_first : r.section ≢ 1 → 1 ≤ d.section
    past_first ne = ⊎_elim (λ (h : 1 ≤ d.section). h) (λ (e : r.section ≡ 1). absurd (ne e)) taken.follows.2

    -- what is asked of a record of section n, with its numbers written out
    module _ (n : ℕ) (e : r.section ≡ n) where
      abbrev numbered : Record
      numbered = line n r.first r.second r.third r.fourth

      ranges_of : InKnown (known_of d.plan) numbered
      ranges_of = subst (InKnown (known_of d.plan)) (of_section_lem n r e) taken.ranges

      blank_of : Blank numbered
      blank_of = subst Blank (of_section_lem n r e) taken.blank

      held_of : held_in d numbered ≡ 0
      held_of = subst (λ q. held_in d q ≡ 0) (of_section_lem n r e) taken.first

    -- a record of two numbers
    pair_shape : (n : ℕ) (e : r.section ≡ n) → (r.third ≡ 0) × (r.fourth ≡ 0) → r ≡ line n r.first r.second 0 0
    pair_shape n e z = of_section_lem n r e ∙ (λ i. line n r.first r.second (z.0 i) (z.1 i))

    -- a record of one list's section, with the fields of which is asked that they are in range, and a count that is few enough
    own_list : (n count most : ℕ) (xs : List ℕ) (held : (i v : ℕ) → Entry xs i v ↔ Has rs (line n i v 0 0)) (e : r.section ≡ n)
        → (InRange r.first count × (1 ≤ r.second)) → count ≤ most → length xs ≡ most → (r.third ≡ 0) × (r.fourth ≡ 0) → at xs r.first ≡ 0
        → Own n xs rs r held
    own_list n count most xs held e fit few size z empty =
        record { shape = pair_shape n e z; room = (fit.0.0, omega (arith, fit, few, size)); value = fit.1; empty = empty }

    own_capacity : r.section ≡ 2 → Own 2 d.plan.capacity rs r kept.capacities
    unfolding held_in
    own_capacity e =
        let fit = ranges_of 2 e in
        let z = blank_of 2 e in
        own_list 2 d.plan.resources max_resources d.plan.capacity kept.capacities e (fit.0, fit.1.0.0)
        (counts_fit (past_first (λ f. omega arith))).0.1 kept.sizes.capacity (z.0, z.1.0) (held_of 2 e)

    own_length : r.section ≡ 3 → Own 3 d.plan.lengths rs r kept.lengths
    unfolding held_in
    own_length e =
        let fit = ranges_of 3 e in
        let z = blank_of 3 e in
        own_list 3 d.plan.types max_types d.plan.lengths kept.lengths e (fit.0, fit.1.0.0)
        (counts_fit (past_first (λ f. omega arith))).1.1 kept.sizes.lengths (z.0, z.1.0) (held_of 3 e)

    own_rank : r.section ≡ 7 → Own 7 d.plan.rank rs r kept.ranks
    unfolding held_in
    own_rank e =
        let fit = ranges_of 7 e in
        let z = blank_of 7 e in
        own_list 7 d.plan.resources max_resources d.plan.rank kept.ranks e (fit.0, fit.1.0.0)
        (counts_fit (past_first (λ f. omega arith))).0.1 kept.sizes.rank (z.0, z.1.0) (held_of 7 e)

    own_bound : r.section ≡ 5
        → (r ≡ line 5 r.first r.second 0 0) × InRange r.first (length d.bounded) × InRange r.first (length d.plan.bound)
        × (at d.bounded r.first ≡ 0)
    unfolding held_in
    own_bound e =
        let fit = ranges_of 5 e in
        let most = counts_fit (past_first (λ f. omega arith)) in
        let z = blank_of 5 e in (
          pair_shape 5 e (z.0, z.1.0),
          (fit.0.0, omega (arith, fit, most, kept.sizes.bounded)),
          (fit.0.0, omega (arith, fit, most, kept.sizes.bound)),
          held_of 5 e,
        )

    own_demand : r.section ≡ 4 → InRange r.third max_resources × (1 ≤ r.fourth) × (at (stage_here d.plan r).demand r.third ≡ 0)
    unfolding held_in
    own_demand e =
        let fit = ranges_of 4 e in
        let most = counts_fit (past_first (λ f. omega arith)) in (
          (fit.1.1.0.0, omega (arith, fit, most)),
          fit.1.1.1.0.0,
          ap (λ q. at (stage_here d.plan q).demand q.third) (of_section_lem 4 r e) ∙ held_of 4 e,
        )

    own_weight : r.section ≡ 6 → InRange r.first max_rows × (1 ≤ r.fourth) × (at (stage_here d.plan r).weight r.first ≡ 0)
    unfolding held_in
    own_weight e =
        let fit = ranges_of 6 e in
        let most = counts_fit (past_first (λ f. omega arith)) in (
          (fit.0.0, omega (arith, fit, most)),
          fit.1.1.1.0.0,
          ap (λ q. at (stage_here d.plan q).weight q.first) (of_section_lem 6 r e) ∙ held_of 6 e,
        )

    -- C comes first
    nothing_before : r.section ≡ 1 → (rs ≡ []) × (d ≡ empty_draft)
    unfolding held_in
    nothing_before e = kept.fresh (held_of 1 e)

    counts_grow : (of : Plan → ℕ) (x : ℕ) → of empty_plan ≡ 0 → of d.plan ≤ cond (eqb r.section 1) x (of d.plan)
    unfolding empty_draft
    counts_grow of x zero-there =
        ⊎_elim (λ (e : r.section ≡ 1). omega (arith, ap (λ (c : Draft). of c.plan) (nothing_before e).1, zero-there))
        (λ (ne : ¬ (r.section ≡ 1)). rw (ne_eqb r.section 1 ne) (le_refl (of d.plan)))
        (decided (decides_eq r.section 1))

    grows : Grows (known_of d.plan) (known_of (draft_after d r).plan)
    unfolding draft_after empty_plan
    grows =
        record {
          resources = counts_grow (λ p. p.resources) r.first refl;
          types = counts_grow (λ p. p.types) r.second refl;
          rows = counts_grow (λ p. p.rows) r.third refl;
          capacity = entries_grow 2 d.plan.capacity r (λ e. ((own_capacity e).room.0, (own_capacity e).empty));
          lengths = entries_grow 3 d.plan.lengths r (λ e. ((own_length e).room.0, (own_length e).empty));
        }

    section_after : (draft_after d r).section ≡ r.section
    unfolding draft_after
    section_after = rw (ne_eqb r.section 0 (λ e. omega (arith, taken.follows))) refl

    last_after : (qs : List Record) → last_section (qs ++ r ∷ []) ≡ r.section
    last_after [] = refl
    last_after (q ∷ []) = refl
    last_after (q ∷ p ∷ qs) = last_after (p ∷ qs)

    counted_after : Has (rs ++ r ∷ []) (line 1 (draft_after d r).plan.resources (draft_after d r).plan.types (draft_after d r).plan.rows 0)
    unfolding draft_after
    counted_after =
        ⊎_elim
        (λ (e : r.section ≡ 1).
        let z = blank_of 1 e in
        let shape : r ≡ line 1 r.first r.second r.third 0 = of_section_lem 1 r e ∙ (λ i. line 1 r.first r.second r.third (z.0 i)) in
        rw (eq-eqb r.section 1 e) (append_right (λ q. q ≡ line 1 r.first r.second r.third 0) rs (r ∷ []) (inl shape)))
        (λ (ne : ¬ (r.section ≡ 1)).
        rw (ne_eqb r.section 1 ne)
        (append_left (λ q. q ≡ line 1 d.plan.resources d.plan.types d.plan.rows 0) rs (r ∷ []) (kept.counted (past_first ne))))
        (decided (decides_eq r.section 1))

    one_count_after : (a b c : ℕ) → Has (rs ++ r ∷ []) (line 1 a b c 0)
        → (a ≡ (draft_after d r).plan.resources) × (b ≡ (draft_after d r).plan.types) × (c ≡ (draft_after d r).plan.rows)
    unfolding draft_after
    one_count_after a b c has =
        ⊎_elim
        (λ (e : r.section ≡ 1).
        let here = alone (nothing_before e).0 has in
        rw (eq-eqb r.section 1 e)
        (ap (λ (q : Record). q.first) (sym here), ap (λ (q : Record). q.second) (sym here), ap (λ (q : Record). q.third) (sym here)))
        (λ (ne : ¬ (r.section ≡ 1)).
        rw (ne_eqb r.section 1 ne)
        (kept.one_count a b c
        (⊎_elim (λ (h : Has rs (line 1 a b c 0)). h) (λ (h : Has (r ∷ []) (line 1 a b c 0)). absurd (ne (ap (λ (q : Record). q.section) (last h))))
        (some_append (λ q. q ≡ line 1 a b c 0) rs (r ∷ []) has))))
        (decided (decides_eq r.section 1))
      where
        last : Has (r ∷ []) (line 1 a b c 0) → r ≡ line 1 a b c 0
        last (inr x') = elim x' [ ]
        last (inl e) = e

        alone : rs ≡ [] → Has (rs ++ r ∷ []) (line 1 a b c 0) → r ≡ line 1 a b c 0
        alone none h = last (subst (λ qs. Has (qs ++ r ∷ []) (line 1 a b c 0)) none h)

    -- the stages of all types grow by those of a T
    length_added : r.section ≡ 3 → all_stages (draft_after d r).plan ≡ all_stages d.plan + r.second
    unfolding draft_after all_stages
    length_added e =
        let own = own_length e in
        rw e (sum_put d.plan.lengths r.first r.second own.room own.empty d.plan.types (ranges_of 3 e).0.1)

    no_length : (t : ℕ) → at (replicate max_types 0) t ≡ 0
    no_length zero = refl
    no_length (suc t) = replicated max_types t 0

    nothing_added : r.section ≡ 1 → (all_stages (draft_after d r).plan ≡ 0) × (stages_in rs ≡ 0)
    unfolding draft_after all_stages empty_draft empty_plan
    nothing_added e =
        let none = nothing_before e in
        let zeros : (t : ℕ) → 0 < t → at d.plan.lengths t ≡ 0 = λ t h. ap (λ (c : Draft). at c.plan.lengths t) none.1 ∙ no_length t in
        (rw e (sum_beyond (at d.plan.lengths) 0 r.second (omega arith) zeros), ap stages_in none.0)

    stages_more : all_stages (draft_after d r).plan ≡ stages_in (rs ++ r ∷ [])
    stages_more =
        let both = stages_append rs (r ∷ []) in
        ⊎_elim (λ (e : r.section ≡ 3). both_said (rw (eq-eqb r.section 3 e) at both) (length_added e))
        (λ (ne : ¬ (r.section ≡ 3)).
        let same : stages_in (rs ++ r ∷ []) ≡ stages_in rs + (0 + 0) = rw (ne_eqb r.section 3 ne) at both in
        ⊎_elim (λ (e : r.section ≡ 1). omega (arith, same, nothing_added e))
        (λ (n : ¬ (r.section ≡ 1)). omega (arith, same, total_same rs d kept r taken n ne, kept.summed))
        (decided (decides_eq r.section 1)))
        (decided (decides_eq r.section 3))
      where
        both_said : stages_in (rs ++ r ∷ []) ≡ stages_in rs + (r.second + 0) → all_stages (draft_after d r).plan ≡ all_stages d.plan + r.second
            → all_stages (draft_after d r).plan ≡ stages_in (rs ++ r ∷ [])
        both_said said added = omega (arith, said, added, kept.summed)

    pub kept_after : Kept (rs ++ r ∷ []) (draft_after d r)
    unfolding draft_after
    kept_after =
        record {
          sizes = sizes_after d r kept.sizes;
          fresh = λ e. absurd (omega (arith, section_after, e, taken.follows));
          last = section_after ∙ sym (last_after rs);
          counted = λ h. counted_after;
          one_count = one_count_after;
          unwritten = λ low.
              stages_same d r (λ e. omega (arith, section_after, low)) (λ e. omega (arith, section_after, low))
              ∙ kept.unwritten (omega (arith, section_after, low, taken.follows));
          ranged = append_each (Ranged (known_of (draft_after d r).plan)) rs (r ∷ [])
              (each_map (Ranged (known_of d.plan)) (Ranged (known_of (draft_after d r).plan)) (ranged_grows _ _ grows) rs kept.ranged)
              (ranged_grows _ _ grows r (record { section = taken.follows.0; ranges = taken.ranges; blank = taken.blank }), tt);
          total = omega (arith, stages_more, taken.total, stages_append rs (r ∷ []));
          summed = stages_more;
          beyond = beyond_after rs d kept r taken;
          flags = flags_held d.bounded d.plan.bound rs r kept.bounds kept.flags (λ e. (own_bound e).1);
          capacities = entries_held 2 d.plan.capacity rs r kept.capacities own_capacity;
          lengths = entries_held 3 d.plan.lengths rs r kept.lengths own_length;
          demands = half_held rs d kept r taken demand_half demand_laws kept.demands own_demand;
          bounds = bounds_held d.bounded d.plan.bound rs r kept.bounds own_bound;
          weights = half_held rs d kept r taken weight_half weight_laws kept.weights own_weight;
          ranks = entries_held 7 d.plan.rank rs r kept.ranks own_rank;
        }

-- the empty draft
no_entry : (n i v : ℕ) → ¬ Entry (replicate n 0) i v
no_entry n zero v h = omega (arith, h)
no_entry n (suc i) v h = omega (arith, h, replicated {A = ℕ} n i 0)

pub nothing_kept : Kept [] empty_draft
unfolding empty_draft empty_plan all_stages
nothing_kept =
    record {
      sizes =
          record { capacity = refl; rank = refl; bound = refl; bounded = refl; lengths = refl; stages = refl; demand = sized_demand; weight = sized_weight };
      fresh = λ e. (refl, refl);
      last = refl;
      counted = λ h. absurd (omega arith);
      one_count = λ a b c h. absurd h;
      unwritten = λ low. refl;
      ranged = tt;
      total = omega arith;
      summed = refl;
      beyond = λ i h. replicated max_all_stages i no_stage;
      flags = unmarked;
      capacities = λ i v. (no_entry max_resources i v, λ h. absurd h);
      lengths = λ i v. (no_entry max_types i v, λ h. absurd h);
      demands = λ k v. (λ h. no_entry max_resources k.2 v (rw (blank_stage empty_plan k.0 k.1 refl) at h), λ h. absurd h);
      bounds = λ w v. (λ h. not_marked w h.0, λ h. absurd h);
      weights = λ k v. (λ h. no_entry max_rows k.2 v (rw (blank_stage empty_plan k.0 k.1 refl) at h), λ h. absurd h);
      ranks = λ i v. (no_entry max_resources i v, λ h. absurd h);
    }
  where
    sized_demand : (i : ℕ) → length (get_or (replicate max_all_stages no_stage) i no_stage).demand ≡ max_resources
    sized_demand i = rw (replicated max_all_stages i no_stage) refl

    sized_weight : (i : ℕ) → length (get_or (replicate max_all_stages no_stage) i no_stage).weight ≡ max_rows
    sized_weight i = rw (replicated max_all_stages i no_stage) refl

    zeros : (w : ℕ) → at (replicate max_rows 0) w ≡ 0
    zeros zero = refl
    zeros (suc w) = replicated max_rows w 0

    unmarked : (w : ℕ) → (at (replicate max_rows 0) w ≡ 1) ⊎ ((at (replicate max_rows 0) w ≡ 0) × (at (replicate max_rows 0) w ≡ 0))
    unmarked w = inr (zeros w, zeros w)

    not_marked : (w : ℕ) → ¬ (at (replicate max_rows 0) w ≡ 1)
    not_marked w e = omega (arith, zeros w)
