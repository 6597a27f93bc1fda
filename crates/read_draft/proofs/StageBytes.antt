-- The bytes of a stage are its demands and then its weights, so an entry put into either is one of the stage.
use Prim.Native.Nat.{ℕ}
use native.Mathlib.Omega.{arith}
use mathlib.Core.Bool.{Bool, true, false, cond}
use mathlib.Core.List.{List, ◌++◌, append-nil}
use mathlib.Core.Path.{◌≡◌, refl, sym, ap, ◌∙◌}
use lib.Dec.{eqb}
use lib.ListN.{length, take, drop, length-drop, length-set, take-append-drop, drop_of_length-le}
use lib.Seq.{take_all, length-take-le}
use borrow.Author.Tests.{eq-eqb, ne_eqb}
use Rattle.model.specs.Limits.{max_resources, max_rows}
use Rattle.model.specs.declared.Stage.{Stage}
use Rattle.plan_bytes.specs.Over.{stage_in, stage_size}
use Rattle.plan_bytes.proofs.Laid.{stage_back}
use Rattle.plan_text.specs.Draft.{put, with_demand, with_weight, stage_after_record}
use Rattle.plan_text.specs.declared.Record.{Record}
use Rattle.read_draft.specs.StageBytes.{bytes_after}

module _ (s : Stage) (r : Record) where
  abbrev either : Bool → Bool → Stage
  either a b = cond a (with_demand s r.third r.fourth) (cond b (with_weight s r.first r.fourth) s)

  same_sizes : (a b : Bool) → (length (either a b).demand ≡ length s.demand) × (length (either a b).weight ≡ length s.weight)
  same_sizes true b = (length-set s.demand _ _, refl)
  same_sizes false true = (refl, length-set s.weight _ _)
  same_sizes false false = (refl, refl)

module _ (bytes : List ℕ) (r : Record) (whole : length bytes ≡ stage_size) where
  abbrev after : Stage
  after = stage_after_record (stage_in bytes) r

  weights : take max_rows (drop max_resources bytes) ≡ drop max_resources bytes
  weights = take_all max_rows (drop max_resources bytes) (omega (arith, length-drop max_resources bytes))

  laid : bytes_after bytes r ≡ after.demand ++ after.weight
  laid = rw (eq-eqb (length bytes) stage_size whole) refl

  pub demand_put : r.section ≡ 4 → put (take max_resources bytes) r.third r.fourth ++ drop max_resources bytes ≡ bytes_after bytes r
  demand_put e = sym (laid ∙ rw (eq-eqb r.section 4 e, weights) refl)

  pub weight_put : r.section ≡ 6
      → take max_resources bytes ++ (put (take max_rows (drop max_resources bytes)) r.first r.fourth ++ drop max_rows (drop max_resources bytes)) ≡ bytes_after bytes r
  weight_put e =
      let new = put (take max_rows (drop max_resources bytes)) r.first r.fourth in
      let none = drop_of_length-le (drop max_resources bytes) {i = max_rows} (omega (arith, length-drop max_resources bytes)) in
      ap (λ xs. take max_resources bytes ++ xs) (ap (λ xs. new ++ xs) none ∙ append-nil new)
      ∙ sym (laid ∙ rw (ne_eqb r.section 4 (λ f. omega arith), eq-eqb r.section 6 e) refl)

  pub nothing_put : (¬ (r.section ≡ 4)) → (¬ (r.section ≡ 6)) → bytes ≡ bytes_after bytes r
  nothing_put a b = sym (laid ∙ rw (ne_eqb r.section 4 a, ne_eqb r.section 6 b, weights) (take-append-drop max_resources bytes))

  sizes : (length after.demand ≡ max_resources) × (length after.weight ≡ max_rows)
  sizes =
      let same = same_sizes (stage_in bytes) r (eqb r.section 4) (eqb r.section 6) in (
        same.0 ∙ length-take-le max_resources bytes (omega arith),
        same.1 ∙ length-take-le max_rows (drop max_resources bytes) (omega (arith, length-drop max_resources bytes)),
      )

  pub after_length : length (bytes_after bytes r) ≡ stage_size
  after_length = ap length laid ∙ (stage_back after sizes.0 sizes.1).0

  pub after_read : stage_in (bytes_after bytes r) ≡ after
  after_read = ap stage_in laid ∙ (stage_back after sizes.0 sizes.1).1
