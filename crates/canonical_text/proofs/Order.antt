-- The keys of a plan's records rise: from one section to the next, and within each by the numbers that it runs through. So no key is
-- there twice.
use Prim.Native.Nat.{ℕ, ◌≤◌}
use native.Mathlib.Omega.{arith}
use mathlib.Core.List.{List, [], ◌∷◌, ◌++◌}
use mathlib.Core.Logic.{inl, inr}
use mathlib.Core.Path.{◌≡◌, refl}
use Rattle.model.specs.Numbers.{InRange, Each}
use Rattle.model.specs.Plan.{bound_of, length_of, demand_of, weight_of}
use Rattle.model.specs.declared.Plan.{Plan}
use Rattle.model.proofs.Lists.{each_append}
use Rattle.plan_text.specs.Records.{sections, key_of, Has}
use Rattle.plan_text.specs.Meaning.{R, T, S, B, A, K}
use Rattle.plan_text.specs.declared.Record.{Record}
use Rattle.plan_text.proofs.Sections.{one_of_seven}
use Rattle.canonical_text.specs.CanonicalText.{list_to, valued, stage_demands, demand_records, bound_records, type_weights, weight_records, section_records, plan_records}
use Rattle.canonical_text.specs.Order.{Below, Rising}
use Rattle.canonical_text.proofs.Lists.{some_to, only, rising_to, one_valued, OneOf, one_to, below_as, values_rise, entries_rise}
use Rattle.canonical_text.proofs.Members.{in_section}

module _ (p : Plan) where
  stage_rises : (t k : ℕ) → Rising (stage_demands p t k)
  stage_rises t k = values_rise (S t k) (λ i j v w l. inr (refl, inr (refl, inr (refl, inl l)))) (λ r. demand_of p r t k) p.resources

  one_demand : (t k : ℕ) (x : Record) → Has (stage_demands p t k) x → OneOf (S t k) x
  one_demand t k = one_to (S t k) p.resources (λ r. valued (demand_of p r t k) (S t k r)) (λ r. one_valued (demand_of p r t k) (S t k r))

  type_rises : (t : ℕ) → Rising (list_to (length_of p t) (stage_demands p t))
  type_rises t =
      rising_to (stage_demands p t) (length_of p t) (λ k h. stage_rises t k)
      (λ i j h g l x y has later.
      let a = one_demand t i x has in
      let b = one_demand t j y later in
      below_as x y _ _ a.1.1 b.1.1 (inr (refl, inr (refl, inl l))))

  demands_rise : Rising (demand_records p)
  demands_rise =
      rising_to (λ t. list_to (length_of p t) (stage_demands p t)) p.types (λ t h. type_rises t)
      (λ i j h g l x y has later.
      let a = some_to (λ q. q ≡ x) (stage_demands p i) (length_of p i) has in
      let b = some_to (λ q. q ≡ y) (stage_demands p j) (length_of p j) later in
      let c = one_demand i a.0 x a.2 in
      let d = one_demand j b.0 y b.2 in
      below_as x y _ _ c.1.1 d.1.1 (inr (refl, inl l)))

  bounds_rise : Rising (bound_records p.rows p.bound)
  bounds_rise =
      rising_to (λ w. B w (bound_of p w) ∷ []) p.rows (λ w h. (tt, tt))
      (λ i j h g l x y has later. below_as x y _ _ (only _ x has) (only _ y later) (inr (refl, inl l)))

  type_weights_rise : (w t : ℕ) → Rising (type_weights p w t)
  type_weights_rise w t = values_rise (A w t) (λ i j v u l. inr (refl, inr (refl, inr (refl, inl l)))) (weight_of p w t) (length_of p t)

  one_weight : (w t : ℕ) (x : Record) → Has (type_weights p w t) x → OneOf (A w t) x
  one_weight w t = one_to (A w t) (length_of p t) (λ k. valued (weight_of p w t k) (A w t k)) (λ k. one_valued (weight_of p w t k) (A w t k))

  row_rises : (w : ℕ) → Rising (list_to p.types (type_weights p w))
  row_rises w =
      rising_to (type_weights p w) p.types (λ t h. type_weights_rise w t)
      (λ i j h g l x y has later.
      let a = one_weight w i x has in
      let b = one_weight w j y later in
      below_as x y _ _ a.1.1 b.1.1 (inr (refl, inr (refl, inl l))))

  weights_rise : Rising (weight_records p)
  weights_rise =
      rising_to (λ w. list_to p.types (type_weights p w)) p.rows (λ w h. row_rises w)
      (λ i j h g l x y has later.
      let a = some_to (λ q. q ≡ x) (type_weights p i) p.types has in
      let b = some_to (λ q. q ≡ y) (type_weights p j) p.types later in
      let c = one_weight i a.0 x a.2 in
      let d = one_weight j b.0 y b.2 in
      below_as x y _ _ c.1.1 d.1.1 (inr (refl, inl l)))

  section_rises : (n : ℕ) → InRange n sections → Rising (section_records p n)
  section_rises =
      one_of_seven (λ n. Rising (section_records p n)) (tt, tt) (entries_rise R (λ i j v w l. inr (refl, inl l)) p.resources p.capacity)
      (entries_rise T (λ i j v w l. inr (refl, inl l)) p.types p.lengths) demands_rise bounds_rise weights_rise
      (entries_rise K (λ i j v w l. inr (refl, inl l)) p.resources p.rank)

  pub records_rise : Rising (plan_records p)
  records_rise =
      rising_to (section_records p) sections section_rises
      (λ i j h g l x y has later. inl (omega (arith, in_section p i h x has, in_section p j g y later, l)))

-- no key is below itself, and a key below another is of no later section
pub not_below : (ks : List ℕ) → ¬ Below ks ks
not_below [] x' = elim x' [ ]
not_below (k ∷ ks) (inl l) = omega arith
not_below (k ∷ ks) (inr h) = not_below ks h.1

pub below_section : (x y : Record) → Below (key_of x) (key_of y) → x.section ≤ y.section
below_section x y (inl l) = omega arith
below_section x y (inr h) = omega (arith, h.0)

-- a record of a list whose keys rise: those before it are below it, and it is below those after it
pub rising_split : (xs : List Record) (y : Record) (ys : List Record) → Rising (xs ++ y ∷ ys)
    → Each (λ (x : Record). Below (key_of x) (key_of y)) xs × Each (λ (z : Record). Below (key_of y) (key_of z)) ys
rising_split [] y ys h = (tt, h.0)
rising_split (x ∷ xs) y ys h =
    let rest = rising_split xs y ys h.1 in
    let here = each_append (λ (z : Record). Below (key_of x) (key_of z)) xs (y ∷ ys) h.0 in
    ((here.1.0, rest.0), rest.1)
