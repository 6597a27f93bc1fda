-- The records of a plan: a record of a section is in it exactly when it says a value of the plan that is not 0, or a bound. So they say
-- the plan.
use Prim.Native.Nat.{ℕ, zero, suc, ◌≤◌}
use native.Mathlib.Omega.{arith}
use mathlib.Core.List.{List}
use mathlib.Core.Logic.{◌⊎◌, inl, ⊎_elim, ◌↔◌}
use mathlib.Core.Path.{◌≡◌, refl, sym, ap, subst, ◌∙◌}
use borrow.Author.Tests.{ne_eqb}
use Rattle.model.specs.Numbers.{InRange, at}
use Rattle.model.specs.Limits.{max_resources, max_rows}
use Rattle.model.specs.Plan.{no_stage, bound_of, length_of, IsStage, stage_of, demand_of, weight_of}
use Rattle.model.specs.Soundness.{ZeroBeyond, Sound}
use Rattle.model.specs.declared.Stage.{Stage}
use Rattle.model.specs.declared.Plan.{Plan}
use Rattle.model.proofs.Decide.{decided, decides_le}
use Rattle.model.proofs.Flat.{stage_cases}
use Rattle.model.proofs.Lists.{zeros_at}
use Rattle.plan_text.specs.Records.{sections, Has}
use Rattle.plan_text.specs.Meaning.{line, C, R, T, S, B, A, K, RecordsSay}
use Rattle.plan_text.specs.declared.Record.{Record}
use Rattle.plan_text.proofs.Sections.{one_of_seven}
use Rattle.canonical_text.specs.CanonicalText.{valued, entry_records, demand_records, bound_records, weight_records, section_records, plan_records}
use Rattle.canonical_text.proofs.Lists.{some_to, to_some, only, valued_found}

-- a record of a value
has_valued : (v : ℕ) (of : ℕ → Record) → 1 ≤ v → Has (valued v of) (of v)
has_valued v of h = rw (ne_eqb v 0 (λ e. omega arith)) (inl refl)

-- the records of a list's entries
pub entry_found : (of : ℕ → ℕ → Record) (n : ℕ) (xs : List ℕ) (x : Record) → Has (entry_records of n xs) x
    → (i : ℕ) × InRange i n × (1 ≤ at xs i) × (x ≡ of i (at xs i))
entry_found of n xs x h =
    let found = some_to (λ q. q ≡ x) (λ i. valued (at xs i) (of i)) n h in
    let here = valued_found (at xs found.0) (of found.0) x found.2 in
    (found.0, found.1, here.0, here.1)

has_entry : (of : ℕ → ℕ → Record) (n : ℕ) (xs : List ℕ) (i : ℕ) → InRange i n → 1 ≤ at xs i → Has (entry_records of n xs) (of i (at xs i))
has_entry of n xs i within h =
    to_some (λ q. q ≡ of i (at xs i)) (λ j. valued (at xs j) (of j)) n i within (has_valued (at xs i) (of i) h)

-- only within the count is there an entry
entry_within : (n : ℕ) (xs : List ℕ) → ZeroBeyond n xs → (i : ℕ) → 1 ≤ at xs i → InRange i n
entry_within n xs beyond zero h = absurd (omega arith)
entry_within n xs beyond (suc i) h =
    ⊎_elim (λ (low : suc i ≤ n). (omega arith, low)) (λ (high : ¬ (suc i ≤ n)). absurd (omega (arith, beyond (suc i) (omega arith))))
    (decided (decides_le (suc i) n))

module _ (p : Plan) where
  -- S, B and A
  abbrev pub IsDemand : Record → Type 0
  IsDemand x =
      (t k r : ℕ) × InRange t p.types × InRange k (length_of p t) × InRange r p.resources × (1 ≤ demand_of p r t k) × (x ≡ S t k r (demand_of p r t k))

  abbrev pub IsBound : Record → Type 0
  IsBound x = (w : ℕ) × InRange w p.rows × (x ≡ B w (bound_of p w))

  abbrev pub IsWeight : Record → Type 0
  IsWeight x =
      (w t k : ℕ) × InRange w p.rows × InRange t p.types × InRange k (length_of p t) × (1 ≤ weight_of p w t k) × (x ≡ A w t k (weight_of p w t k))

  pub demand_found : (x : Record) → Has (demand_records p) x → IsDemand x
  demand_found x h =
      let a = some_to (λ q. q ≡ x) _ p.types h in
      let b = some_to (λ q. q ≡ x) _ (length_of p a.0) a.2 in
      let c = some_to (λ q. q ≡ x) _ p.resources b.2 in
      let d = valued_found (demand_of p c.0 a.0 b.0) (S a.0 b.0 c.0) x c.2 in
      (a.0, b.0, c.0, a.1, b.1, c.1, d.0, d.1)

  has_demand : (t k r : ℕ) → InRange t p.types → InRange k (length_of p t) → InRange r p.resources → 1 ≤ demand_of p r t k
      → Has (demand_records p) (S t k r (demand_of p r t k))
  has_demand t k r a b c h =
      let is : Record → Type 0 = λ q. q ≡ S t k r (demand_of p r t k) in
      to_some is _ p.types t a (to_some is _ (length_of p t) k b (to_some is _ p.resources r c (has_valued (demand_of p r t k) (S t k r) h)))

  has_bound : (w : ℕ) → InRange w p.rows → Has (bound_records p.rows p.bound) (B w (bound_of p w))
  has_bound w a = to_some (λ q. q ≡ B w (bound_of p w)) _ p.rows w a (inl refl)

  pub bound_found : (x : Record) → Has (bound_records p.rows p.bound) x → IsBound x
  bound_found x h =
      let a = some_to (λ q. q ≡ x) _ p.rows h in (a.0, a.1, only (B a.0 (bound_of p a.0)) x a.2)

  pub weight_found : (x : Record) → Has (weight_records p) x → IsWeight x
  weight_found x h =
      let a = some_to (λ q. q ≡ x) _ p.rows h in
      let b = some_to (λ q. q ≡ x) _ p.types a.2 in
      let c = some_to (λ q. q ≡ x) _ (length_of p b.0) b.2 in
      let d = valued_found (weight_of p a.0 b.0 c.0) (A a.0 b.0 c.0) x c.2 in
      (a.0, b.0, c.0, a.1, b.1, c.1, d.0, d.1)

  has_weight : (w t k : ℕ) → InRange w p.rows → InRange t p.types → InRange k (length_of p t) → 1 ≤ weight_of p w t k
      → Has (weight_records p) (A w t k (weight_of p w t k))
  has_weight w t k a b c h =
      let is : Record → Type 0 = λ q. q ≡ A w t k (weight_of p w t k) in
      to_some is _ p.rows w a (to_some is _ p.types t b (to_some is _ (length_of p t) k c (has_valued (weight_of p w t k) (A w t k) h)))

  -- each section has its own records
  pub in_section : (n : ℕ) → InRange n sections → (x : Record) → Has (section_records p n) x → x.section ≡ n
  in_section =
      one_of_seven (λ n. (x : Record) → Has (section_records p n) x → x.section ≡ n)
      (λ x h. ap (λ (q : Record). q.section) (only _ x h))
      (λ x h. ap (λ (q : Record). q.section) (entry_found R p.resources p.capacity x h).3)
      (λ x h. ap (λ (q : Record). q.section) (entry_found T p.types p.lengths x h).3)
      (λ x h. ap (λ (q : Record). q.section) (demand_found x h).7)
      (λ x h. ap (λ (q : Record). q.section) (bound_found x h).2)
      (λ x h. ap (λ (q : Record). q.section) (weight_found x h).7)
      (λ x h. ap (λ (q : Record). q.section) (entry_found K p.resources p.rank x h).3)

  pub own_section : (x : Record) → Has (plan_records p) x → InRange x.section sections × Has (section_records p x.section) x
  own_section x h =
      let found = some_to (λ q. q ≡ x) (section_records p) sections h in
      let e = sym (in_section found.0 found.1 x found.2) in
      (subst (λ n. InRange n sections) e found.1, subst (λ n. Has (section_records p n) x) e found.2)

  pub has_own : (n : ℕ) (x : Record) → InRange n sections → Has (section_records p n) x → Has (plan_records p) x
  has_own n x within h = to_some (λ q. q ≡ x) (section_records p) sections n within h

  -- a value that is not 0 is of a stage, and within the count
  staged : (part : Stage → List ℕ) → ((i : ℕ) → at (part no_stage) i ≡ 0) → (count : ℕ)
      → ((t k : ℕ) → IsStage p t k → ZeroBeyond count (part (stage_of p t k))) → (t k i : ℕ) → 1 ≤ at (part (stage_of p t k)) i → IsStage p t k × InRange i count
  staged part none count beyond t k i h =
      let stage : IsStage p t k =
      ⊎_elim (λ s. s) (λ (e : stage_of p t k ≡ no_stage). absurd (omega (arith, ap (λ (s : Stage). at (part s) i) e, none i))) (stage_cases p t k) in
      (stage, entry_within count _ (beyond t k stage) i h)

  -- the records of a sound plan say it
  module _ (sound : Sound p) where
    says_counts : (a b c : ℕ) → ((p.resources ≡ a) × (p.types ≡ b) × (p.rows ≡ c)) ↔ Has (plan_records p) (C a b c)
    says_counts a b c = (
      λ e. has_own 1 (C a b c) (omega arith, omega arith) (inl (λ i. C (e.0 i) (e.1 i) (e.2 i))),
      λ h. let e = only (C p.resources p.types p.rows) (C a b c) (own_section (C a b c) h).1 in
          (λ i. (sym e i).first, λ i. (sym e i).second, λ i. (sym e i).third),
    )

    says_demand : (t k r v : ℕ) → 1 ≤ v → (demand_of p r t k ≡ v) ↔ Has (plan_records p) (S t k r v)
    unfolding demand_of
    says_demand t k r v h = (there, back)
      where
        there : demand_of p r t k ≡ v → Has (plan_records p) (S t k r v)
        there e =
            let some : 1 ≤ demand_of p r t k = omega arith in
            let here = staged (λ s. s.demand) (zeros_at max_resources) p.resources (λ t k s. (sound.stages t k s).no_more_demands) t k r some in
            subst (λ x. Has (plan_records p) (S t k r x)) e (has_own 4 _ (omega arith, omega arith) (has_demand t k r here.0.0 here.0.1 here.1 some))

        back : Has (plan_records p) (S t k r v) → demand_of p r t k ≡ v
        back has =
            let e = (demand_found (S t k r v) (own_section (S t k r v) has).1).7 in
            (λ i. demand_of p (e i).third (e i).first (e i).second) ∙ sym (λ i. (e i).fourth)

    says_bound : (w v : ℕ) → (bound_of p w ≡ v → InRange w p.rows) → (bound_of p w ≡ v) ↔ Has (plan_records p) (B w v)
    says_bound w v within = (
      λ e. subst (λ x. Has (plan_records p) (B w x)) e (has_own 5 _ (omega arith, omega arith) (has_bound w (within e))),
      λ has. let e = (bound_found (B w v) (own_section (B w v) has).1).2 in (λ i. bound_of p (e i).first) ∙ sym (λ i. (e i).second),
    )

    says_weight : (w t k v : ℕ) → 1 ≤ v → (weight_of p w t k ≡ v) ↔ Has (plan_records p) (A w t k v)
    unfolding weight_of
    says_weight w t k v h = (there, back)
      where
        there : weight_of p w t k ≡ v → Has (plan_records p) (A w t k v)
        there e =
            let some : 1 ≤ weight_of p w t k = omega arith in
            let here = staged (λ s. s.weight) (zeros_at max_rows) p.rows (λ t k s. (sound.stages t k s).no_more_weights) t k w some in
            subst (λ x. Has (plan_records p) (A w t k x)) e (has_own 6 _ (omega arith, omega arith) (has_weight w t k here.1 here.0.0 here.0.1 some))

        back : Has (plan_records p) (A w t k v) → weight_of p w t k ≡ v
        back has =
            let e = (weight_found (A w t k v) (own_section (A w t k v) has).1).7 in
            (λ i. weight_of p (e i).first (e i).second (e i).third) ∙ sym (λ i. (e i).fourth)

    -- R, T and K
    says_entry : (n : ℕ) → InRange n sections → (xs : List ℕ) (count : ℕ) → section_records p n ≡ entry_records (λ i v. line n i v 0 0) count xs
        → ZeroBeyond count xs → (i v : ℕ) → 1 ≤ v → (at xs i ≡ v) ↔ Has (plan_records p) (line n i v 0 0)
    says_entry n section xs count is beyond i v h = (there, back)
      where
        there : at xs i ≡ v → Has (plan_records p) (line n i v 0 0)
        there e =
            let some : 1 ≤ at xs i = omega arith in
            subst (λ x. Has (plan_records p) (line n i x 0 0)) e
            (has_own n _ section (subst (λ rs. Has rs (line n i (at xs i) 0 0)) (sym is) (has_entry (λ j w. line n j w 0 0) count xs i (entry_within count xs beyond i some) some)))

        back : Has (plan_records p) (line n i v 0 0) → at xs i ≡ v
        back has =
            let here = subst (λ rs. Has rs (line n i v 0 0)) is (own_section (line n i v 0 0) has).1 in
            let e = (entry_found (λ j w. line n j w 0 0) count xs (line n i v 0 0) here).3 in
            (λ j. at xs (e j).first) ∙ sym (λ j. (e j).second)

    pub plan_says : RecordsSay (plan_records p) p
    plan_says =
        record {
          so_far =
              record {
                counts = λ a b c h. says_counts a b c;
                capacities = says_entry 2 (omega arith, omega arith) p.capacity p.resources refl sound.no_more_capacities;
                lengths = says_entry 3 (omega arith, omega arith) p.lengths p.types refl sound.no_more_lengths;
                demands = says_demand;
                bounds = λ w v h. says_bound w v (λ e. entry_within p.rows p.bound sound.no_more_bounds w (omega arith));
                weights = says_weight;
                ranks = says_entry 7 (omega arith, omega arith) p.rank p.resources refl sound.no_more_ranks;
              };
          counts = says_counts;
          bounds = λ w v within. says_bound w v (λ e. within);
        }

-- and whatever records say a plan have those of its canonical text
pub said_has : (p : Plan) (rs : List Record) → RecordsSay rs p → (x : Record) → Has (plan_records p) x → Has rs x
said_has p rs whole x h =
    let own = own_section p x h in
    let says = whole.so_far in
    one_of_seven (λ n. Has (section_records p n) x → Has rs x)
    (λ k. subst (Has rs) (sym (only _ x k)) ((whole.counts _ _ _).0 (refl, refl, refl)))
    (λ k. let f = entry_found R p.resources p.capacity x k in subst (Has rs) (sym f.3) ((says.capacities f.0 _ f.2).0 refl))
    (λ k. let f = entry_found T p.types p.lengths x k in subst (Has rs) (sym f.3) ((says.lengths f.0 _ f.2).0 refl))
    (λ k. let f = demand_found p x k in subst (Has rs) (sym f.7) ((says.demands f.0 f.1 f.2 _ f.6).0 refl))
    (λ k. let f = bound_found p x k in subst (Has rs) (sym f.2) ((whole.bounds f.0 _ f.1).0 refl))
    (λ k. let f = weight_found p x k in subst (Has rs) (sym f.7) ((says.weights f.0 f.1 f.2 _ f.6).0 refl))
    (λ k. let f = entry_found K p.resources p.rank x k in subst (Has rs) (sym f.3) ((says.ranks f.0 _ f.2).0 refl))
    x.section own.0 own.1
