-- How long the text of a plan's demands and weights is at most: a stage has as many records as there are resources, or one for a row, each of 46 bytes.
use Prim.Native.Nat.{ℕ, ◌≤◌}
use native.Mathlib.Omega.{arith}
use lib.ListN.{length}
use Rattle.model.specs.Numbers.{Each, InRange}
use Rattle.model.specs.Plan.{length_of, demand_of, weight_of}
use Rattle.model.specs.declared.Plan.{Plan}
use Rattle.plan_text.specs.Meaning.{S, A}
use Rattle.plan_text.specs.Records.{numbers_of}
use Rattle.canonical_text.specs.CanonicalText.{valued, stage_demands, demand_records, type_weights, weight_records, text_of, list_to}
use Rattle.write_record.proofs.Lengths.{Small, valued_short, lists_short}

-- what a frame and bytes give: counts and lengths of 8 bits, and numbers of 32
pub record Narrow (p : Plan) : Type 0 where
  pub counts : (p.resources ≤ 255) × (p.types ≤ 255) × (p.rows ≤ 255)
  pub lengths : (t : ℕ) → length_of p t ≤ 255
  pub demands : (r t k : ℕ) → InRange r p.resources → InRange t p.types → InRange k (length_of p t) → Each Small (numbers_of (S t k r (demand_of p r t k)))
  pub weights : (w t k : ℕ) → InRange w p.rows → InRange t p.types → InRange k (length_of p t) → Each Small (numbers_of (A w t k (weight_of p w t k)))

pub demands_short : (p : Plan) → Narrow p → length (text_of (demand_records p)) ≤ 12846891424439250
demands_short p n =
    let stage = λ (t k : ℕ) (w : InRange t p.types) (v : InRange k (length_of p t)).
    lists_short 46 p.resources (λ r. valued (demand_of p r t k) (S t k r)) (λ r u. valued_short (demand_of p r t k) (S t k r) (n.demands r t k u w v)) in
    let type = λ (t : ℕ) (w : InRange t p.types).
    lists_short 11730 (length_of p t) (stage_demands p t) (λ k v. omega (arith, stage t k w v, n.counts)) in
    let all = lists_short 2991150 p.types (λ t. list_to (length_of p t) (stage_demands p t)) (λ t w. omega (arith, type t w, n.lengths t)) in
    omega (arith, all, n.counts)

pub weights_short : (p : Plan) → Narrow p → length (text_of (weight_records p)) ≤ 3275957313232008750
weights_short p n =
    let type = λ (w t : ℕ) (x : InRange w p.rows) (y : InRange t p.types).
    lists_short 46 (length_of p t) (λ k. valued (weight_of p w t k) (A w t k)) (λ k v. valued_short (weight_of p w t k) (A w t k) (n.weights w t k x y v)) in
    let row = λ (w : ℕ) (x : InRange w p.rows).
    lists_short 11730 p.types (type_weights p w) (λ t y. omega (arith, type w t x y, n.lengths t)) in
    let all = lists_short 2991150 p.rows (λ w. list_to p.types (type_weights p w)) (λ w x. omega (arith, row w x, n.counts)) in
    omega (arith, all, n.counts)
