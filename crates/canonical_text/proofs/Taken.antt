-- The records of a sound plan are taken one after the other: each is in range, since the counts, capacities and stages that its range
-- goes by are of earlier sections and so were read before it, and its key is new, since keys rise.
use Prim.Native.Nat.{ℕ, ◌+◌, ◌≤◌, ◌<◌}
use native.Mathlib.Omega.{arith}
use mathlib.Core.Bool.{true}
use mathlib.Core.List.{List, [], ◌∷◌, ◌++◌}
use mathlib.Core.Logic.{◌⊎◌, inl, inr, ⊎_elim, ◌↔◌}
use mathlib.Core.Path.{◌≡◌, refl, sym, ap, subst}
use lib.ListN.{length, take}
use borrow.Author.Tests.{eq-eqb, ne_eqb, le-leb, eqb-true}
use Rattle.model.specs.Limits.{max_types, max_stages, max_units, max_all_stages}
use Rattle.model.specs.Numbers.{InRange, at, sum_to, Each}
use Rattle.model.specs.Plan.{capacity_of, rank_of, length_of, all_stages, demand_of}
use Rattle.model.specs.Soundness.{Sound}
use Rattle.model.specs.declared.Plan.{Plan}
use Rattle.model.proofs.Decide.{decided, holds, passes, decides_eq}
use Rattle.model.proofs.Lists.{each_map}
use Rattle.model.proofs.Sums.{sum_mono}
use Rattle.plan_text.specs.Records.{sections, layout_of, numbers_of, key_of, Has}
use Rattle.plan_text.specs.RecordTests.{Known, known_of}
use Rattle.plan_text.specs.ReaderInternals.{InKnown}
use Rattle.plan_text.specs.Draft.{Draft, empty_draft, put, draft_of, draft_after, held_in}
use Rattle.plan_text.specs.TextQuestions.{last_section, Follows, InRanges, FirstWithKey, WithinTotal}
use Rattle.plan_text.specs.Reading.{within_total}
use Rattle.plan_text.specs.Meaning.{line, C, R, T, K}
use Rattle.plan_text.specs.declared.Record.{Record}
use Rattle.plan_text.proofs.RecordLists.{some_append, append_left, append_right, has_each, put_same, put_other, sum_put, sum_beyond}
use Rattle.plan_text.proofs.Sections.{one_of_seven, Blank}
use Rattle.plan_text.proofs.Kept.{Kept}
use Rattle.plan_text.proofs.KeptAfter.{kept_after}
use Rattle.plan_text.proofs.RecordQuestions.{ranges_told, decides_first, decides_total}
use Rattle.plan_text.proofs.FirstFailure.{draft_more}
use Rattle.plan_text.proofs.SamePlan.{told}
use Rattle.canonical_text.specs.CanonicalText.{entry_records, section_records, plan_records}
use Rattle.canonical_text.specs.Order.{Below, Rising}
use Rattle.canonical_text.proofs.Lists.{only, each_has}
use Rattle.canonical_text.proofs.Members.{entry_found, demand_found, bound_found, weight_found, own_section, plan_says}
use Rattle.canonical_text.proofs.Order.{records_rise, not_below, below_section, rising_split}
use Rattle.canonical_text.proofs.RecordText.{CanonicalFits}

-- what is known of the plan before a record of section n
pub record Knows (p : Plan) (n : ℕ) (k : Known) : Type 0 where
  pub counts : 2 ≤ n → (k.resources ≡ p.resources) × (k.types ≡ p.types) × (k.rows ≡ p.rows)
  pub capacities : 3 ≤ n → (i : ℕ) → at k.capacity i ≡ capacity_of p i
  pub lengths : 4 ≤ n → (t : ℕ) → at k.lengths t ≡ length_of p t

-- a record in range, with zeros and of few digits
abbrev Fits : Known → Record → Type 0
Fits k x = InKnown k x × Blank x × Each (λ (n : ℕ). n < 100000) (take (length (layout_of x.section)) (numbers_of x))

-- the section of the last record
last_within : (P : ℕ → Type 0) → P 0 → (rs : List Record) → Each (λ (q : Record). P q.section) rs → P (last_section rs)
last_within P none [] h = none
last_within P none (q ∷ []) h = h.0
last_within P none (q ∷ r ∷ rs) h = last_within P none (r ∷ rs) h.1

last_or_none : (rs : List Record) → Each (λ (q : Record). 1 ≤ q.section) rs → (1 ≤ last_section rs) ⊎ ((q : Record) → ¬ Has rs q)
last_or_none [] h = inr (λ q k. k)
last_or_none (q ∷ []) h = inl h.0
last_or_none (q ∷ r ∷ rs) h = ⊎_elim inl (λ none. absurd (none r (inl refl))) (last_or_none (r ∷ rs) h.1)

module _ (p : Plan) (sound : Sound p) where
  -- a rank that is given
  rank_most : (i : ℕ) → InRange i p.resources → rank_of p i ≤ max_units
  rank_most i within = ⊎_elim (λ all. (all i within).1) (λ none. omega (arith, none i within)) sound.ranks

  -- section by section
  module _ (x : Record) (k : Known) where
    abbrev FitsIn : ℕ → Type 0
    FitsIn n = Has (section_records p n) x → Knows p n k → Fits k x

    fits_as : {q : Record} → x ≡ q → Fits k q → Fits k x
    fits_as e = subst (Fits k) (sym e)

    -- an entry's number, up to a count, and its value
    entry_fits : (of : ℕ → ℕ → Record) (count limit : ℕ) (xs : List ℕ) → count ≤ 32 → limit ≤ 255 → ((i : ℕ) → InRange i count → at xs i ≤ limit)
        → ((i v : ℕ) → InRange i count → InRange v limit → i < 100000 → v < 100000 → Fits k (of i v)) → Has (entry_records of count xs) x → Fits k x
    entry_fits of count limit xs few small most made here =
        let f = entry_found of count xs x here in
        let value = most f.0 f.1 in
        fits_as f.3 (made f.0 _ f.1 (f.2, value) (omega (arith, f.1)) (omega (arith, value)))

    counts_fit : FitsIn 1
    counts_fit here know =
        fits_as (only _ x here) (
          (sound.resources, (sound.types, ((omega arith, sound.rows), tt))),
          (refl, tt),
          (omega (arith, sound.resources), (omega (arith, sound.types), (omega (arith, sound.rows), tt))),
        )

    capacity_fits : FitsIn 2
    capacity_fits here know =
        entry_fits R p.resources max_units p.capacity sound.resources.1 (omega arith) (λ i h. (sound.capacities i h).1)
        (λ i v h j few small. (((h.0, omega (arith, h, know.counts (omega arith))), (j, tt)), (refl, (refl, tt)), (few, (small, tt)))) here

    length_fits : FitsIn 3
    length_fits here know =
        entry_fits T p.types max_stages p.lengths (omega (arith, sound.types)) (omega arith) (λ i h. (sound.lengths i h).1)
        (λ i v h j few small. (((h.0, omega (arith, h, know.counts (omega arith))), (j, tt)), (refl, (refl, tt)), (few, (small, tt)))) here

    rank_fits : FitsIn 7
    rank_fits here know =
        entry_fits K p.resources max_units p.rank sound.resources.1 (omega arith) rank_most
        (λ i v h j few small. (((h.0, omega (arith, h, know.counts (omega arith))), (j, tt)), (refl, (refl, tt)), (few, (small, tt)))) here

    bound_fits : FitsIn 5
    bound_fits here know =
        let f = bound_found p x here in
        let most = sound.bounds f.0 f.1 in
        fits_as f.2 (
          ((f.1.0, omega (arith, f.1, know.counts (omega arith))), ((omega arith, most), tt)),
          (refl, (refl, tt)),
          (omega (arith, f.1, sound.rows), (omega (arith, most), tt)),
        )

    demand_fits : FitsIn 4
    demand_fits here know =
        let f = demand_found p x here in
        let most = (sound.stages f.0 f.1 (f.3, f.4)).demands f.2 f.5 in
        let counts = know.counts (omega arith) in
        let kind : f.0 ≤ k.types = omega (arith, f.3, counts) in
        let stage : f.1 ≤ at k.lengths f.0 = omega (arith, f.4, know.lengths (omega arith) f.0) in
        let resource : f.2 ≤ k.resources = omega (arith, f.5, counts) in
        let units : demand_of p f.2 f.0 f.1 ≤ at k.capacity f.2 = omega (arith, most, know.capacities (omega arith) f.2) in
        fits_as f.7 (
          ((f.3.0, kind), ((f.4.0, stage), ((f.5.0, resource), ((f.6, units), tt)))),
          tt,
          (
            omega (arith, f.3, sound.types),
            (omega (arith, f.4, sound.lengths f.0 f.3), (omega (arith, f.5, sound.resources), (omega (arith, most, sound.capacities f.2 f.5), tt))),
          ),
        )

    weight_fits : FitsIn 6
    weight_fits here know =
        let f = weight_found p x here in
        let most = (sound.stages f.1 f.2 (f.4, f.5)).weights f.0 f.3 in
        let counts = know.counts (omega arith) in
        let row : f.0 ≤ k.rows = omega (arith, f.3, counts) in
        let kind : f.1 ≤ k.types = omega (arith, f.4, counts) in
        let stage : f.2 ≤ at k.lengths f.1 = omega (arith, f.5, know.lengths (omega arith) f.1) in
        fits_as f.7 (
          ((f.3.0, row), ((f.4.0, kind), ((f.5.0, stage), ((f.6, most), tt)))),
          tt,
          (
            omega (arith, f.3, sound.rows),
            (omega (arith, f.4, sound.types), (omega (arith, f.5, sound.lengths f.1 f.4), (omega (arith, most), tt))),
          ),
        )

    record_fits : Has (plan_records p) x → Knows p x.section k → Fits k x
    record_fits h =
        let own = own_section p x h in
        one_of_seven FitsIn counts_fit capacity_fits length_fits demand_fits bound_fits weight_fits rank_fits x.section own.0 own.1

  pub canonical_fits : Each CanonicalFits (plan_records p)
  canonical_fits =
      each_has CanonicalFits (plan_records p)
      (λ x h.
      let fits = record_fits x (known_of p) h (record { counts = λ l. (refl, refl, refl); capacities = λ l i. refl; lengths = λ l t. refl }) in
      record { section = (own_section p x h).0; blank = fits.1; short = fits.2 })

  -- the records before one of them, after which the draft is d
  module _ (rs : List Record) (r : Record) (qs : List Record) (whole : plan_records p ≡ rs ++ r ∷ qs) (kept : Kept rs (draft_of rs)) where
    abbrev d : Draft
    d = draft_of rs

    abbrev order : Each (λ (x : Record). Below (key_of x) (key_of r)) rs × Each (λ (z : Record). Below (key_of r) (key_of z)) qs
    order = rising_split rs r qs (subst Rising whole (records_rise p))

    here : Has (plan_records p) r
    here = subst (λ xs. Has xs r) (sym whole) (append_right (λ q. q ≡ r) rs (r ∷ qs) (inl refl))

    mine : (q : Record) → Has rs q → Has (plan_records p) q
    mine q h = subst (λ xs. Has xs q) (sym whole) (append_left (λ x. x ≡ q) rs (r ∷ qs) h)

    -- what is of an earlier section was before it
    earlier : (q : Record) → Has (plan_records p) q → q.section < r.section → Has rs q
    earlier q h l =
        ⊎_elim (λ k. k) (λ k. absurd (later k)) (some_append (λ x. x ≡ q) rs (r ∷ qs) (subst (λ xs. Has xs q) whole h))
      where
        later : Has (r ∷ qs) q → ⊥
        later (inl e) = omega (arith, ap (λ (x : Record). x.section) e, l)
        later (inr k) = omega (arith, below_section r q (has_each (λ z. Below (key_of r) (key_of z)) qs q order.1 k), l)

    -- entries that are held exactly when there is a record of theirs
    entry_told : (n : ℕ) (xs ys : List ℕ) → n < r.section → ((i v : ℕ) → ((1 ≤ v) × (at xs i ≡ v)) ↔ Has rs (line n i v 0 0))
        → ((i v : ℕ) → 1 ≤ v → (at ys i ≡ v) ↔ Has (plan_records p) (line n i v 0 0)) → (i : ℕ) → at xs i ≡ at ys i
    entry_told n xs ys l held says i =
        told (at xs i) (at ys i) (λ v h e. (says i v h).1 (mine (line n i v 0 0) ((held i v).0 (h, e))))
        (λ v h e. ((held i v).1 (earlier (line n i v 0 0) ((says i v h).0 e) l)).1)

    known : Knows p r.section (known_of d.plan)
    known =
        record {
          counts = λ l.
              let e = kept.one_count _ _ _ (earlier (C p.resources p.types p.rows) (((plan_says p sound).counts _ _ _).0 (refl, refl, refl)) l) in
              (sym e.0, sym e.1, sym e.2);
          capacities = λ l. entry_told 2 _ _ l kept.capacities (plan_says p sound).so_far.capacities;
          lengths = λ l. entry_told 3 _ _ l kept.lengths (plan_says p sound).so_far.lengths;
        }

    fits : Fits (known_of d.plan) r
    fits = record_fits r (known_of d.plan) here known

    first : FirstWithKey rs r
    first = each_map _ _ (λ q b e. not_below (key_of r) (subst (λ k. Below k (key_of r)) e b)) rs order.0

    section : InRange r.section sections
    section = (own_section p r here).0

    low_sections : Each (λ (q : Record). q.section ≤ r.section) rs
    low_sections = each_map _ _ (λ q b. below_section q r b) rs order.0

    past : (1 ≤ last_section rs) ⊎ (r.section ≡ 1)
    past =
        ⊎_elim inl
        (λ none.
        ⊎_elim inr
        (λ (ne : ¬ (r.section ≡ 1)).
        absurd (none _ (earlier (C p.resources p.types p.rows) (((plan_says p sound).counts _ _ _).0 (refl, refl, refl)) (omega (arith, ne, section)))))
        (decided (decides_eq r.section 1)))
        (last_or_none rs (each_has _ rs (λ q h. (own_section p q (mine q h)).0.0)))

    follows : Follows (last_section rs) r.section
    follows = (section, last_within (λ n. n ≤ r.section) (omega arith) rs low_sections, past)

    unheld : held_in d r ≡ 0
    unheld = eqb-true (held_in d r) 0 (passes (decides_first rs d kept r section fits.0) first)

    -- the stages of the types so far, and of one more, are at most those of the plan
    length_most : (t : ℕ) → at d.plan.lengths t ≤ length_of p t
    length_most t =
        ⊎_elim (λ (e : at d.plan.lengths t ≡ 0). omega arith)
        (λ (ne : ¬ (at d.plan.lengths t ≡ 0)).
        let v = at d.plan.lengths t in
        let some : 1 ≤ v = omega (arith, ne) in
        omega (arith, ((plan_says p sound).so_far.lengths t v some).1 (mine (T t v) ((kept.lengths t v).0 (some, refl)))))
        (decided (decides_eq (at d.plan.lengths t) 0))

    after_most : (t : ℕ) → InRange t (length d.plan.lengths) → (u : ℕ) → at (put d.plan.lengths t (length_of p t)) u ≤ length_of p u
    after_most t room u =
        ⊎_elim (λ (e : u ≡ t). omega (arith, ap (at (put d.plan.lengths t (length_of p t))) e, put_same d.plan.lengths t (length_of p t) room, ap (length_of p) e))
        (λ (ne : ¬ (u ≡ t)). omega (arith, put_other d.plan.lengths t u (length_of p t) room.0 ne, length_most u))
        (decided (decides_eq u t))

    stages_within : r.section ≡ 3 → sum_to max_types (at d.plan.lengths) + r.second ≤ max_all_stages
    unfolding held_in all_stages
    stages_within e =
        let f = entry_found T p.types p.lengths r (subst (λ n. Has (section_records p n) r) e (own_section p r here).1) in
        let t = f.0 in
        let v = length_of p t in
        let xs = d.plan.lengths in
        let value : r.second ≡ v = ap (λ (q : Record). q.second) f.3 in
        let empty : at xs t ≡ 0 = subst (λ q. held_in d q ≡ 0) f.3 unheld in
        let room : InRange t (length xs) = (f.1.0, omega (arith, f.1, sound.types, kept.sizes.lengths)) in
        let more = sum_put xs t v room empty max_types (omega (arith, f.1, sound.types)) in
        let most = sum_mono (at (put xs t v)) (length_of p) (after_most t room) max_types in
        let all = sum_beyond (length_of p) p.types max_types sound.types.1 sound.no_more_lengths in
        omega (arith, value, more, most, all, sound.total)

    within_total_lem : WithinTotal rs r
    within_total_lem = holds (decides_total rs d kept r (⊎_elim (λ l. inl (omega (arith, kept.last, l))) inr past)) met
      where
        met : within_total d.plan.lengths r ≡ true
        met =
            ⊎_elim (λ (e : r.section ≡ 3). rw (eq-eqb r.section 3 e) (le-leb _ max_all_stages (stages_within e)))
            (λ (ne : ¬ (r.section ≡ 3)). rw (ne_eqb r.section 3 ne) refl) (decided (decides_eq r.section 3))

    one_more : draft_of (rs ++ r ∷ []) ≡ draft_after d r
    one_more = draft_more empty_draft rs (r ∷ [])

    pub record TakenNext : Type 0 where
      pub three : Follows (last_section rs) r.section
      pub five : InRanges rs r
      pub six : FirstWithKey rs r
      pub total : WithinTotal rs r
      pub after : Kept (rs ++ r ∷ []) (draft_of (rs ++ r ∷ []))

    -- so it is taken
    pub next : TakenNext
    next =
        record {
          three = follows;
          five = (ranges_told rs d kept r).0 fits.0;
          six = first;
          total = within_total_lem;
          after = subst (Kept (rs ++ r ∷ [])) (sym one_more)
              (kept_after rs d kept r
              (record { follows = rw kept.last follows; ranges = fits.0; blank = fits.1; first = unheld; total = within_total_lem }));
        }
