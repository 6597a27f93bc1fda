-- What holds of a draft after records that were taken one by one: its lists have their sizes, every record is in range still, and
-- an entry holds a value exactly when there is the record with that key and that value.
use Prim.Native.Nat.{ℕ, suc, ◌+◌, ◌-◌, ◌≤◌, ◌<◌}
use native.Mathlib.Omega.{arith}
use mathlib.Core.Bool.{Bool, true, false, cond, false≢true}
use mathlib.Core.List.{List, [], ◌∷◌, ◌++◌}
use mathlib.Core.Logic.{◌≢◌, ◌⊎◌, inl, inr, ⊎_elim, ◌↔◌}
use mathlib.Core.Path.{◌≡◌, refl, sym, ap, subst, ◌∙◌}
use lib.Dec.{eqb}
use lib.ListN.{length, get_or, set, replicate, length-set}
use lib.Seq.{get_or-set_same, get_or-set_other, set_out}
use borrow.Author.Tests.{eq-eqb, ne_eqb}
use Rattle.model.specs.Limits.{max_resources, max_types, max_rows, max_all_stages}
use Rattle.model.specs.Numbers.{InRange, at, sum_to, Each}
use Rattle.model.specs.Plan.{no_stage, bound_of, length_of, IsStage, all_stages, stage_of}
use Rattle.model.specs.declared.Stage.{Stage}
use Rattle.model.specs.declared.Plan.{Plan}
use Rattle.model.proofs.Decide.{decided, decides_eq, decides_le}
use Rattle.model.proofs.Flat.{index_of_stage}
use Rattle.model.proofs.Lists.{replicated}
use Rattle.plan_text.specs.Records.{sections, Has}
use Rattle.plan_text.specs.RecordTests.{Known, known_of}
use Rattle.plan_text.specs.ReaderInternals.{InKnown}
use Rattle.plan_text.specs.Draft.{Draft, empty_draft, put, with_demand, with_weight, type_named, stage_named, index_named}
use Rattle.plan_text.specs.Draft.{entries_after, bounded_after, stage_after_record, stage_here}
use Rattle.plan_text.specs.Draft.{draft_after, held_in}
use Rattle.plan_text.specs.TextQuestions.{Follows, last_section, stages_in, WithinTotal}
use Rattle.plan_text.specs.Meaning.{line}
use Rattle.plan_text.specs.declared.Record.{Record}
use Rattle.plan_text.proofs.RecordLists.{held_still, held_more, put_same, put_other, put_length, entries_length}
use Rattle.plan_text.proofs.Sections.{of_section_lem, Blank}
use Rattle.plan_text.proofs.StageWritten as stages

-- the sizes of a draft's lists
pub record Sizes (d : Draft) : Type 0 where
  pub capacity : length d.plan.capacity ≡ max_resources
  pub rank : length d.plan.rank ≡ max_resources
  pub bound : length d.plan.bound ≡ max_rows
  pub bounded : length d.bounded ≡ max_rows
  pub lengths : length d.plan.lengths ≡ max_types
  pub stages : length d.plan.stages ≡ max_all_stages
  pub demand : (i : ℕ) → length (get_or d.plan.stages i no_stage).demand ≡ max_resources
  pub weight : (i : ℕ) → length (get_or d.plan.stages i no_stage).weight ≡ max_rows

-- an entry of a list holds a value; a row has this bound
abbrev pub Entry : List ℕ → ℕ → ℕ → Type 0
Entry xs i v = (1 ≤ v) × (at xs i ≡ v)

abbrev pub Bounded : List ℕ → List ℕ → ℕ → ℕ → Type 0
Bounded bounded bound w v = (at bounded w ≡ 1) × (at bound w ≡ v)

-- a stage, and a number of it
abbrev pub Slot : Type 0
Slot = ℕ × ℕ × ℕ

-- S and A: what they write of a stage, the record of a slot and a value, and the slot's number in the record
pub record Half : Type 0 where
  pub section : ℕ
  pub part : Stage → List ℕ
  pub of : Slot → ℕ → Record
  pub number : Record → ℕ
  pub size : ℕ

abbrev pub demand_half : Half
demand_half =
    record {
      section = 4;
      part = λ s. s.demand;
      of = λ k v. line 4 k.0 k.1 k.2 v;
      number = λ r. r.third;
      size = max_resources;
    }

abbrev pub weight_half : Half
weight_half =
    record {
      section = 6;
      part = λ s. s.weight;
      of = λ k v. line 6 k.2 k.0 k.1 v;
      number = λ r. r.first;
      size = max_rows;
    }

abbrev pub InSlot : Half → Plan → Slot → ℕ → Type 0
InSlot h p k v = Entry (h.part (stage_of p k.0 k.1)) k.2 v

-- a record of the text, in range
pub record Ranged (k : Known) (q : Record) : Type 0 where
  pub section : InRange q.section sections
  pub ranges : InKnown k q
  pub blank : Blank q

pub record Kept (rs : List Record) (d : Draft) : Type 0 where
  pub sizes : Sizes d
  pub fresh : d.section ≡ 0 → (rs ≡ []) × (d ≡ empty_draft)
  pub last : d.section ≡ last_section rs
  pub counted : 1 ≤ d.section → Has rs (line 1 d.plan.resources d.plan.types d.plan.rows 0)
  pub one_count : (a b c : ℕ) → Has rs (line 1 a b c 0) → (a ≡ d.plan.resources) × (b ≡ d.plan.types) × (c ≡ d.plan.rows)
  pub unwritten : d.section ≤ 3 → d.plan.stages ≡ replicate max_all_stages no_stage
  pub ranged : Each (Ranged (known_of d.plan)) rs
  pub total : all_stages d.plan ≤ max_all_stages
  pub summed : all_stages d.plan ≡ stages_in rs
  pub beyond : (i : ℕ) → all_stages d.plan ≤ i → get_or d.plan.stages i no_stage ≡ no_stage
  pub flags : (w : ℕ) → (at d.bounded w ≡ 1) ⊎ ((at d.bounded w ≡ 0) × (bound_of d.plan w ≡ 0))
  pub capacities : (i v : ℕ) → Entry d.plan.capacity i v ↔ Has rs (line 2 i v 0 0)
  pub lengths : (t v : ℕ) → Entry d.plan.lengths t v ↔ Has rs (line 3 t v 0 0)
  pub demands : (k : Slot) (v : ℕ) → InSlot demand_half d.plan k v ↔ Has rs (demand_half.of k v)
  pub bounds : (w v : ℕ) → Bounded d.bounded d.plan.bound w v ↔ Has rs (line 5 w v 0 0)
  pub weights : (k : Slot) (v : ℕ) → InSlot weight_half d.plan k v ↔ Has rs (weight_half.of k v)
  pub ranks : (i v : ℕ) → Entry d.plan.rank i v ↔ Has rs (line 7 i v 0 0)

-- what questions 3 to 6 say of the next record
pub record Taken (rs : List Record) (d : Draft) (r : Record) : Type 0 where
  pub follows : Follows d.section r.section
  pub ranges : InKnown (known_of d.plan) r
  pub blank : Blank r
  pub first : held_in d r ≡ 0
  pub total : WithinTotal rs r

-- sizes stay
set_keeps : {A : Type 0} (P : A → Type 0) (xs : List A) (i : ℕ) (x d : A) → P x → ((j : ℕ) → P (get_or xs j d)) → (j : ℕ) → P (get_or (set xs i x) j d)
set_keeps P xs i x d new old j =
    ⊎_elim
    (λ (e : j ≡ i).
    ⊎_elim (λ (l : i < length xs). rw (e, get_or-set_same xs i x d l) new)
    (λ (l : ¬ (i < length xs)). rw (set_out xs i x (omega arith)) (old j))
    (decided (decides_le (suc i) (length xs))))
    (λ (n : ¬ (j ≡ i)). rw (get_or-set_other xs i j x d n) (old j))
    (decided (decides_eq j i))

cond_length : (b : Bool) (xs ys : List ℕ) (n : ℕ) → length xs ≡ n → length ys ≡ n → length (cond b xs ys) ≡ n
cond_length true xs ys n h k = h
cond_length false xs ys n h k = k

module _ (d : Draft) (r : Record) (sizes : Sizes d) where
  sized : (n size : ℕ) (xs : List ℕ) → length xs ≡ size → length (entries_after n xs r) ≡ size
  sized n size xs h = entries_length n xs r ∙ h

  stage_sized : (s : Stage) → (length s.demand ≡ max_resources) × (length s.weight ≡ max_rows)
      → (length (stage_after_record s r).demand ≡ max_resources) × (length (stage_after_record s r).weight ≡ max_rows)
  stage_sized s h = go (eqb r.section 4) (eqb r.section 6)
    where
      go : (a b : Bool) → let t = cond a (with_demand s r.third r.fourth) (cond b (with_weight s r.first r.fourth) s) in
          (length t.demand ≡ max_resources) × (length t.weight ≡ max_rows)
      go true b = (put_length s.demand r.third r.fourth ∙ h.0, h.1)
      go false true = (h.0, put_length s.weight r.first r.fourth ∙ h.1)
      go false false = h

  stages_sized : (i : ℕ) → let s = get_or (draft_after d r).plan.stages i no_stage in (length s.demand ≡ max_resources) × (length s.weight ≡ max_rows)
  unfolding draft_after
  stages_sized =
      set_keeps (λ (s : Stage). (length s.demand ≡ max_resources) × (length s.weight ≡ max_rows)) d.plan.stages
      (index_named d.plan.lengths r) (stage_after_record (stage_here d.plan r) r) no_stage
      (stage_sized (stage_here d.plan r) (sizes.demand _, sizes.weight _)) (λ j. (sizes.demand j, sizes.weight j))

  pub sizes_after : Sizes (draft_after d r)
  unfolding draft_after
  sizes_after =
      record {
        capacity = sized 2 max_resources d.plan.capacity sizes.capacity;
        rank = sized 7 max_resources d.plan.rank sizes.rank;
        bound = sized 5 max_rows d.plan.bound sizes.bound;
        bounded = cond_length (eqb r.section 5) _ _ max_rows (put_length d.bounded r.first _ ∙ sizes.bounded) sizes.bounded;
        lengths = sized 3 max_types d.plan.lengths sizes.lengths;
        stages = length-set d.plan.stages _ _ ∙ sizes.stages;
        demand = λ i. (stages_sized i).0;
        weight = λ i. (stages_sized i).1;
      }

-- a family of entries in one list
module _ (n : ℕ) (xs : List ℕ) (rs : List Record) (r : Record) (held : (i v : ℕ) → Entry xs i v ↔ Has rs (line n i v 0 0)) where
  -- the record is the first with its key
  pub record Own : Type 0 where
    pub shape : r ≡ line n r.first r.second 0 0
    pub room : InRange r.first (length xs)
    pub value : 1 ≤ r.second
    pub empty : at xs r.first ≡ 0

  pub entries_held : (r.section ≡ n → Own) → (i v : ℕ) → Entry (entries_after n xs r) i v ↔ Has (rs ++ r ∷ []) (line n i v 0 0)
  entries_held own i v =
      ⊎_elim
      (λ (e : r.section ≡ n).
      let o = own e in
      let same = put_same xs r.first r.second o.room in
      rw (eq-eqb r.section n e)
      (held_more (λ j w. line n j w 0 0) (Entry xs) (Entry (put xs r.first r.second)) rs r held r.first r.second o.shape
      (λ w h. omega (arith, h, o.empty)) (o.value, same) (λ w h. sym same ∙ h.1)
      (λ k ne w.
      let other = put_other xs r.first k r.second o.room.0 (λ e. ne (sym e)) in
      (λ h. (h.0, sym other ∙ h.1), λ h. (h.0, other ∙ h.1)))
      (λ k w e. (ap (λ (q : Record). q.first) e, ap (λ (q : Record). q.second) e)) (λ k. decided (decides_eq r.first k)) i v))
      (λ (ne : ¬ (r.section ≡ n)).
      rw (ne_eqb r.section n ne)
      (held_still (λ j w. line n j w 0 0) (Entry xs) (Entry xs) rs r held (λ j w e. ne (ap (λ (q : Record). q.section) e))
      (λ j w. (λ h. h, λ h. h)) i v))
      (decided (decides_eq r.section n))

-- the bounds, which may be 0: a row with its bound is marked
module _ (bounded bound : List ℕ) (rs : List Record) (r : Record) (held : (w v : ℕ) → Bounded bounded bound w v ↔ Has rs (line 5 w v 0 0)) where
  pub bounds_held : (r.section ≡ 5 → (r ≡ line 5 r.first r.second 0 0) × InRange r.first (length bounded) × InRange r.first (length bound)
      × (at bounded r.first ≡ 0))
      → (w v : ℕ) → Bounded (bounded_after bounded r) (entries_after 5 bound r) w v ↔ Has (rs ++ r ∷ []) (line 5 w v 0 0)
  bounds_held own i v =
      ⊎_elim
      (λ (e : r.section ≡ 5).
      let o = own e in
      let marked = put_same bounded r.first 1 o.1 in
      let same = put_same bound r.first r.second o.2 in
      rw (eq-eqb r.section 5 e)
      (held_more (λ j w. line 5 j w 0 0) (Bounded bounded bound) (Bounded (put bounded r.first 1) (put bound r.first r.second)) rs r held
      r.first r.second o.0
      (λ w h. omega (arith, h, o.3)) (marked, same) (λ w h. sym same ∙ h.1)
      (λ k ne w.
      let unmarked = put_other bounded r.first k 1 o.1.0 (λ e. ne (sym e)) in
      let other = put_other bound r.first k r.second o.1.0 (λ e. ne (sym e)) in
      (λ h. (sym unmarked ∙ h.0, sym other ∙ h.1), λ h. (unmarked ∙ h.0, other ∙ h.1)))
      (λ k w e. (ap (λ (q : Record). q.first) e, ap (λ (q : Record). q.second) e)) (λ k. decided (decides_eq r.first k)) i v))
      (λ (ne : ¬ (r.section ≡ 5)).
      rw (ne_eqb r.section 5 ne)
      (held_still (λ j w. line 5 j w 0 0) (Bounded bounded bound) (Bounded bounded bound) rs r held
      (λ j w e. ne (ap (λ (q : Record). q.section) e)) (λ j w. (λ h. h, λ h. h)) i v))
      (decided (decides_eq r.section 5))

  pub flags_held : ((w : ℕ) → (at bounded w ≡ 1) ⊎ ((at bounded w ≡ 0) × (at bound w ≡ 0))) → (r.section ≡ 5 → InRange r.first (length bounded))
      → (w : ℕ) → (at (bounded_after bounded r) w ≡ 1) ⊎ ((at (bounded_after bounded r) w ≡ 0) × (at (entries_after 5 bound r) w ≡ 0))
  flags_held flags room w =
      ⊎_elim
      (λ (e : r.section ≡ 5).
      rw (eq-eqb r.section 5 e)
      (⊎_elim (λ (same : w ≡ r.first). inl (ap (λ i. at (put bounded r.first 1) i) same ∙ put_same bounded r.first 1 (room e)))
      (λ (ne : ¬ (w ≡ r.first)).
      rw (put_other bounded r.first w 1 (room e).0 ne, put_other bound r.first w r.second (room e).0 ne) (flags w))
      (decided (decides_eq w r.first))))
      (λ (ne : ¬ (r.section ≡ 5)). rw (ne_eqb r.section 5 ne) (flags w))
      (decided (decides_eq r.section 5))

same_stage : (t k u j : ℕ) → ((t ≡ u) × (k ≡ j)) ⊎ (¬ ((t ≡ u) × (k ≡ j)))
same_stage t k u j =
    ⊎_elim
    (λ (a : t ≡ u). ⊎_elim (λ (b : k ≡ j). inl (a, b)) (λ (b : ¬ (k ≡ j)). inr (λ h. b h.1)) (decided (decides_eq k j)))
    (λ (a : ¬ (t ≡ u)). inr (λ h. a h.0))
    (decided (decides_eq t u))

-- what the two halves have in common
pub record HalfLaws (h : Half) : Type 0 where
  pub names : (r : Record) → r.section ≡ h.section → (r.section ≡ 4) ⊎ (r.section ≡ 6)
  pub shape : (r : Record) → r.section ≡ h.section → r ≡ h.of (type_named r, stage_named r, h.number r) r.fourth
  pub writes : (s : Stage) (r : Record) → r.section ≡ h.section → h.part (stage_after_record s r) ≡ put (h.part s) (h.number r) r.fourth
  pub keeps : (s : Stage) (r : Record) → r.section ≢ h.section → h.part (stage_after_record s r) ≡ h.part s
  pub section_of_lem : (k : Slot) (v : ℕ) → (h.of k v).section ≡ h.section
  pub apart : (k : Slot) (v : ℕ) (j : Slot) (w : ℕ) → h.of k v ≡ h.of j w → (k ≡ j) × (v ≡ w)
  pub sized : (d : Draft) → Sizes d → (i : ℕ) → length (h.part (get_or d.plan.stages i no_stage)) ≡ h.size

demand_keeps : (s : Stage) (r : Record) (a b : Bool) → a ≡ false
    → (cond a (with_demand s r.third r.fourth) (cond b (with_weight s r.first r.fourth) s)).demand ≡ s.demand
demand_keeps s r true b e = absurd (false≢true (sym e))
demand_keeps s r false true e = refl
demand_keeps s r false false e = refl

weight_keeps : (s : Stage) (r : Record) (a b : Bool) → b ≡ false
    → (cond a (with_demand s r.third r.fourth) (cond b (with_weight s r.first r.fourth) s)).weight ≡ s.weight
weight_keeps s r true b e = refl
weight_keeps s r false true e = absurd (false≢true (sym e))
weight_keeps s r false false e = refl

pub demand_laws : HalfLaws demand_half
demand_laws =
    record {
      names = λ r e. inl e;
      shape = λ r e. of_section_lem 4 r e ∙ rw e refl;
      writes = λ s r e. rw e refl;
      keeps = λ s r ne. demand_keeps s r (eqb r.section 4) (eqb r.section 6) (ne_eqb r.section 4 ne);
      section_of_lem = λ k v. refl;
      apart = λ k v j w e. (λ i. ((e i).first, (e i).second, (e i).third), λ i. (e i).fourth);
      sized = λ d sizes i. sizes.demand i;
    }

pub weight_laws : HalfLaws weight_half
weight_laws =
    record {
      names = λ r e. inr e;
      shape = λ r e. of_section_lem 6 r e ∙ rw e refl;
      writes = λ s r e. rw e refl;
      keeps = λ s r ne. weight_keeps s r (eqb r.section 4) (eqb r.section 6) (ne_eqb r.section 6 ne);
      section_of_lem = λ k v. refl;
      apart = λ k v j w e. (λ i. ((e i).second, (e i).third, (e i).first), λ i. (e i).fourth);
      sized = λ d sizes i. sizes.weight i;
    }

either : (i : ℕ) (a b : Bool) → (a ≡ true) ⊎ (b ≡ true) → cond a i (cond b i 0) ≡ i
either i true b h = refl
either i false true h = refl
either i false false (inl h) = absurd (false≢true h)
either i false false (inr h) = absurd (false≢true h)

-- where S and A write
written_at : (d : Draft) (r : Record) → (r.section ≡ 4) ⊎ (r.section ≡ 6)
    → index_named d.plan.lengths r ≡ sum_to (type_named r - 1) (length_of d.plan) + (stage_named r - 1)
unfolding index_named
written_at d r (inl e) = either _ (eqb r.section 4) (eqb r.section 6) (inl (eq-eqb r.section 4 e))
written_at d r (inr e) = either _ (eqb r.section 4) (eqb r.section 6) (inr (eq-eqb r.section 6 e))

-- the stage that stands there is the one that they name
pub found_at : (rs : List Record) (d : Draft) → Kept rs d → (r : Record) → (r.section ≡ 4) ⊎ (r.section ≡ 6)
    → IsStage d.plan (type_named r) (stage_named r) → stage_here d.plan r ≡ stage_of d.plan (type_named r) (stage_named r)
found_at rs d kept r e there =
    ap (λ i. get_or d.plan.stages i no_stage) (written_at d r e)
    ∙ sym (stages.stage_here d.plan (type_named r) (stage_named r) there kept.total kept.sizes.stages no_stage)

module _ (rs : List Record) (d : Draft) (kept : Kept rs d) (r : Record) (taken : Taken rs d r) where
  -- the stage that S or A names is one of the plan
  pub named : (r.section ≡ 4) ⊎ (r.section ≡ 6) → IsStage d.plan (type_named r) (stage_named r)
  named (inl e) =
      let q = of_section_lem 4 r e in
      let in-range = subst (InKnown (known_of d.plan)) q taken.ranges in
      subst (λ x. IsStage d.plan (type_named x) (stage_named x)) (sym q) (in-range.0, in-range.1.0)
  named (inr e) =
      let q = of_section_lem 6 r e in
      let in-range = subst (InKnown (known_of d.plan)) q taken.ranges in
      subst (λ x. IsStage d.plan (type_named x) (stage_named x)) (sym q) (in-range.1.0, in-range.1.1.0)

  pub total_same : r.section ≢ 1 → r.section ≢ 3 → all_stages (draft_after d r).plan ≡ all_stages d.plan
  unfolding draft_after all_stages
  total_same a b = rw (ne_eqb r.section 1 a, ne_eqb r.section 3 b) refl

  -- S and A write at the stage that they name, and all else stays
  others_stay : (r.section ≡ 4) ⊎ (r.section ≡ 6) → (draft_after d r).plan ≡ stages.with_stages d.plan (draft_after d r).plan.stages
  unfolding draft_after
  others_stay (inl e) = rw e refl
  others_stay (inr e) = rw e refl

  rewritten : (e : (r.section ≡ 4) ⊎ (r.section ≡ 6))
      → (draft_after d r).plan
      ≡ stages.changed_plan d.plan (type_named r) (stage_named r) (named e) kept.total kept.sizes.stages (stage_after_record (stage_here d.plan r) r)
  unfolding draft_after
  rewritten e =
      others_stay e
      ∙ ap (λ i. stages.with_stages d.plan (set d.plan.stages i (stage_after_record (stage_here d.plan r) r))) (written_at d r e)

  found_here : (e : (r.section ≡ 4) ⊎ (r.section ≡ 6)) → stage_here d.plan r ≡ stage_of d.plan (type_named r) (stage_named r)
  found_here e = found_at rs d kept r e (named e)

  -- the stage that S or A names, and every other stage, after it
  after_here : (r.section ≡ 4) ⊎ (r.section ≡ 6)
      → stage_of (draft_after d r).plan (type_named r) (stage_named r) ≡ stage_after_record (stage_of d.plan (type_named r) (stage_named r)) r
  after_here e =
      let new = stage_after_record (stage_here d.plan r) r in
      ap (λ q. stage_of q (type_named r) (stage_named r)) (rewritten e)
      ∙ stages.stage_named d.plan (type_named r) (stage_named r) (named e) kept.total kept.sizes.stages new
      ∙ ap (λ s. stage_after_record s r) (found_here e)

  after_apart : (r.section ≡ 4) ⊎ (r.section ≡ 6) → (t k : ℕ) → (¬ ((type_named r ≡ t) × (stage_named r ≡ k)))
      → stage_of (draft_after d r).plan t k ≡ stage_of d.plan t k
  after_apart e t k apart =
      let new = stage_after_record (stage_here d.plan r) r in
      ap (λ q. stage_of q t k) (rewritten e)
      ∙ stages.stage_apart d.plan (type_named r) (stage_named r) (named e) kept.total kept.sizes.stages new t k apart

  -- C and T come before any demand and weight, and the other records leave the stages
  unwritten_after : r.section ≤ 3 → r.section ≢ 4 → r.section ≢ 6 → (t k : ℕ) → stage_of (draft_after d r).plan t k ≡ stage_of d.plan t k
  unwritten_after low a b t k =
      let none = kept.unwritten (omega (arith, taken.follows)) in
      stages.blank_stage (draft_after d r).plan t k (stages.stages_same d r a b ∙ none) ∙ sym (stages.blank_stage d.plan t k none)

  after_other : r.section ≢ 4 → r.section ≢ 6 → (t k : ℕ) → stage_of (draft_after d r).plan t k ≡ stage_of d.plan t k
  after_other a b t k =
      ⊎_elim (λ (low : r.section ≤ 3). unwritten_after low a b t k)
      (λ (high : ¬ (r.section ≤ 3)). stages.stage_still d r a b (λ e. high (omega arith)) (λ e. high (omega arith)) t k)
      (decided (decides_le r.section 3))

  -- beyond the stages of all types nothing is written
  beyond_named : (e : (r.section ≡ 4) ⊎ (r.section ≡ 6)) (i : ℕ) → all_stages (draft_after d r).plan ≤ i
      → get_or (draft_after d r).plan.stages i no_stage ≡ no_stage
  unfolding all_stages
  beyond_named e i h =
      let there = named e in
      let fewer : all_stages d.plan ≤ i = rw (rewritten e) at h in
      let within = index_of_stage d.plan (type_named r) (stage_named r) there in
      ap (λ (q : Plan). get_or q.stages i no_stage) (rewritten e)
      ∙ get_or-set_other d.plan.stages _ i (stage_after_record (stage_here d.plan r) r) no_stage (λ same. omega (arith, within, there.1, fewer))
      ∙ kept.beyond i fewer

  pub beyond_after : (i : ℕ) → all_stages (draft_after d r).plan ≤ i → get_or (draft_after d r).plan.stages i no_stage ≡ no_stage
  beyond_after i h = go (decided (decides_eq r.section 4)) (decided (decides_eq r.section 6)) (decided (decides_le r.section 3))
    where
      same_stages : r.section ≢ 4 → r.section ≢ 6 → get_or (draft_after d r).plan.stages i no_stage ≡ get_or d.plan.stages i no_stage
      same_stages a b = ap (λ (xs : List Stage). get_or xs i no_stage) (stages.stages_same d r a b)

      go : (r.section ≡ 4) ⊎ (r.section ≢ 4) → (r.section ≡ 6) ⊎ (r.section ≢ 6) → (r.section ≤ 3) ⊎ (¬ (r.section ≤ 3))
          → get_or (draft_after d r).plan.stages i no_stage ≡ no_stage
      go (inl e) b c = beyond_named (inl e) i h
      go (inr a) (inl e) c = beyond_named (inr e) i h
      go (inr a) (inr b) (inl low) =
          same_stages a b
          ∙ ap (λ (xs : List Stage). get_or xs i no_stage) (kept.unwritten (omega (arith, taken.follows)))
          ∙ replicated max_all_stages i no_stage
      go (inr a) (inr b) (inr high) = same_stages a b ∙ kept.beyond i (rw (total_same (λ e. high (omega arith)) (λ e. high (omega arith))) at h)

  -- a family of entries of the stages
  module _ (h : Half) (laws : HalfLaws h) where
    part_still : r.section ≢ h.section → (t k : ℕ) → h.part (stage_of (draft_after d r).plan t k) ≡ h.part (stage_of d.plan t k)
    part_still ne t k = go (decided (decides_eq r.section 4)) (decided (decides_eq r.section 6))
      where
        changed_elsewhere : (r.section ≡ 4) ⊎ (r.section ≡ 6) → h.part (stage_of (draft_after d r).plan t k) ≡ h.part (stage_of d.plan t k)
        changed_elsewhere e =
            ⊎_elim
            (λ (a : (type_named r ≡ t) × (stage_named r ≡ k)).
            rw (← a.0, ← a.1) (ap h.part (after_here e) ∙ laws.keeps (stage_of d.plan (type_named r) (stage_named r)) r ne))
            (λ (a : ¬ ((type_named r ≡ t) × (stage_named r ≡ k))). ap h.part (after_apart e t k a))
            (same_stage (type_named r) (stage_named r) t k)

        go : (r.section ≡ 4) ⊎ (r.section ≢ 4) → (r.section ≡ 6) ⊎ (r.section ≢ 6)
            → h.part (stage_of (draft_after d r).plan t k) ≡ h.part (stage_of d.plan t k)
        go (inl e) b = changed_elsewhere (inl e)
        go (inr a) (inl e) = changed_elsewhere (inr e)
        go (inr a) (inr b) = ap h.part (after_other a b t k)

    module _ (held : (k : Slot) (v : ℕ) → InSlot h d.plan k v ↔ Has rs (h.of k v)) where
      -- the record of the half is the first with its key
      module _ (e : r.section ≡ h.section) (within : InRange (h.number r) h.size) (value : 1 ≤ r.fourth)
          (nothing : at (h.part (stage_here d.plan r)) (h.number r) ≡ 0) where
        is : (r.section ≡ 4) ⊎ (r.section ≡ 6)
        is = laws.names r e

        abbrev slot : Slot
        slot = (type_named r, stage_named r, h.number r)

        abbrev old : Stage
        old = stage_of d.plan (type_named r) (stage_named r)

        empty : at (h.part old) (h.number r) ≡ 0
        empty = ap (λ s. at (h.part s) (h.number r)) (sym (found_here is)) ∙ nothing

        room : length (h.part old) ≡ h.size
        room = rw (← (found_here is)) (laws.sized d kept.sizes (index_named d.plan.lengths r))

        now : h.part (stage_of (draft_after d r).plan (type_named r) (stage_named r)) ≡ put (h.part old) (h.number r) r.fourth
        now = ap h.part (after_here is) ∙ laws.writes old r e

        here : at (h.part (stage_of (draft_after d r).plan (type_named r) (stage_named r))) (h.number r) ≡ r.fourth
        here =
            ap (λ xs. at xs (h.number r)) now
            ∙ put_same (h.part old) (h.number r) r.fourth (within.0, omega (arith, within, room))

        stay : (j : Slot) → (¬ (slot ≡ j))
            → at (h.part (stage_of (draft_after d r).plan j.0 j.1)) j.2 ≡ at (h.part (stage_of d.plan j.0 j.1)) j.2
        stay j ne =
            ⊎_elim
            (λ (a : (type_named r ≡ j.0) × (stage_named r ≡ j.1)).
            let n : j.2 ≢ h.number r = λ b. ne (λ i. (a.0 i, a.1 i, sym b i)) in
            rw (← a.0, ← a.1)
            (ap (λ xs. at xs j.2) now ∙ put_other (h.part old) (h.number r) j.2 r.fourth within.0 n))
            (λ (a : ¬ ((type_named r ≡ j.0) × (stage_named r ≡ j.1))). ap (λ s. at (h.part s) j.2) (after_apart is j.0 j.1 a))
            (same_stage (type_named r) (stage_named r) j.0 j.1)

        same : (j : Slot) → (slot ≡ j) ⊎ (¬ (slot ≡ j))
        same j =
            ⊎_elim
            (λ (a : (type_named r ≡ j.0) × (stage_named r ≡ j.1)).
            ⊎_elim (λ (b : h.number r ≡ j.2). inl (λ i. (a.0 i, a.1 i, b i)))
            (λ (b : ¬ (h.number r ≡ j.2)). inr (λ c. b (ap (λ (k : Slot). k.2) c))) (decided (decides_eq (h.number r) j.2)))
            (λ (a : ¬ ((type_named r ≡ j.0) × (stage_named r ≡ j.1))). inr (λ c. a (ap (λ (k : Slot). k.0) c, ap (λ (k : Slot). k.1) c)))
            (same_stage (type_named r) (stage_named r) j.0 j.1)

        own_held : (k : Slot) (v : ℕ) → InSlot h (draft_after d r).plan k v ↔ Has (rs ++ r ∷ []) (h.of k v)
        own_held =
            held_more h.of (InSlot h d.plan) (InSlot h (draft_after d r).plan) rs r held slot r.fourth (laws.shape r e)
            (λ w a. omega (arith, a, empty)) (value, here) (λ w a. sym here ∙ a.1)
            (λ j ne w. (λ a. (a.0, sym (stay j ne) ∙ a.1), λ a. (a.0, stay j ne ∙ a.1)))
            (λ j w. laws.apart slot r.fourth j w) same

      pub half_held : (r.section ≡ h.section
          → InRange (h.number r) h.size × (1 ≤ r.fourth) × (at (h.part (stage_here d.plan r)) (h.number r) ≡ 0))
          → (k : Slot) (v : ℕ) → InSlot h (draft_after d r).plan k v ↔ Has (rs ++ r ∷ []) (h.of k v)
      half_held own k v =
          ⊎_elim (λ (e : r.section ≡ h.section). let o = own e in own_held e o.0 o.1 o.2 k v)
          (λ (ne : ¬ (r.section ≡ h.section)).
          held_still h.of (InSlot h d.plan) (InSlot h (draft_after d r).plan) rs r held
          (λ j w e. ne (ap (λ (q : Record). q.section) e ∙ laws.section_of_lem j w))
          (λ j w.
          let still = ap (λ xs. at xs j.2) (part_still ne j.0 j.1) in
          (λ a. (a.0, sym still ∙ a.1), λ a. (a.0, still ∙ a.1)))
          k v)
          (decided (decides_eq r.section h.section))
