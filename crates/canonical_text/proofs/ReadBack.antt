-- What is written is read back: every question of every line of the canonical text is met, so the text is accepted, its records say the plan,
-- and only that plan.
use Prim.Native.Nat.{ℕ, ◌+◌, ◌≤◌}
use native.Mathlib.Omega.{arith}
use mathlib.Core.List.{List, [], ◌∷◌, ◌++◌, map, map-append, append_assoc}
use mathlib.Core.Logic.{◌⊎◌, inl, inr, ⊎_map}
use mathlib.Core.Path.{◌≡◌, refl, sym, ap, subst, ◌∙◌}
use lib.ListN.{length}
use Rattle.model.specs.Numbers.{InRange, Each}
use Rattle.model.specs.Questions.{Condition, AllHold, FirstFailure}
use Rattle.model.specs.Plan.{capacity_of, rank_of, bound_of, length_of, IsStage, demand_of}
use Rattle.model.specs.Soundness.{Sound}
use Rattle.model.specs.declared.Plan.{Plan}
use Rattle.model.proofs.Decide.{Holds, conditions_append}
use Rattle.model.proofs.Lists.{append_each}
use Rattle.plan_text.specs.Lines.{lines_of}
use Rattle.plan_text.specs.Records.{Has}
use Rattle.plan_text.specs.Draft.{draft_of}
use Rattle.plan_text.specs.TextQuestions.{max_text, text_number, records_of, start_after, IsResource, Complete, line_conditions, lines_conditions, last_conditions, text_conditions, Accepts}
use Rattle.plan_text.specs.Reading.{accepted, reading}
use Rattle.plan_text.specs.declared.Reading.{Reading}
use Rattle.plan_text.specs.Meaning.{T, K, RecordsSaySoFar, Sized}
use Rattle.plan_text.specs.declared.Record.{Record}
use Rattle.plan_text.proofs.Kept.{Kept}
use Rattle.plan_text.proofs.KeptAfter.{nothing_kept}
use Rattle.plan_text.proofs.FirstFailure.{reading_first_failure}
use Rattle.plan_text.proofs.AcceptedText.{accepted_whole}
use Rattle.plan_text.proofs.SamePlan.{says_whole}
use Rattle.canonical_text.specs.CanonicalText.{plan_records, canonical_text}
use Rattle.canonical_text.proofs.Members.{entry_found, own_section, plan_says}
use Rattle.canonical_text.proofs.RecordText.{CanonicalFits, record_line, section_told, line_formed, line_fielded, record_back, lines_back, records_back}
use Rattle.canonical_text.proofs.Taken.{canonical_fits, next}

-- an answer of which every question is met
pub all_met : {A : Type 0} (Ok : A → Type 0) (cs : List (Condition A)) (a : A) → AllHold cs → FirstFailure Ok cs a → Ok a
all_met Ok [] a hold h = h
all_met Ok (c ∷ cs) a hold (inl h) = absurd (h.0 hold.0)
all_met Ok (c ∷ cs) a hold (inr h) = all_met Ok cs a hold.1 h.1

module _ (p : Plan) (sound : Sound p) where
  abbrev says : RecordsSaySoFar (plan_records p) p
  says = (plan_says p sound).so_far

  -- the records are complete
  ranks_said : ((i : ℕ) → IsResource (plan_records p) i → (v : ℕ) × Has (plan_records p) (K i v)) ⊎ ((i v : ℕ) → ¬ Has (plan_records p) (K i v))
  ranks_said =
      ⊎_map
      (λ all i is. let ranked = all i (is.4.0, omega (arith, is.4, ((plan_says p sound).counts _ _ _).1 is.3)) in (rank_of p i, (says.ranks i (rank_of p i) ranked.0).0 refl))
      (λ none i v has. let f = entry_found K p.resources p.rank (K i v) (own_section p (K i v) has).1 in omega (arith, none f.0 f.1, f.2))
      sound.ranks

  complete : Complete (plan_records p)
  complete =
      record {
        counts = (_, _, _, ((plan_says p sound).counts _ _ _).0 (refl, refl, refl));
        capacities = λ i is.
            let within : InRange i p.resources = (is.4.0, omega (arith, is.4, ((plan_says p sound).counts _ _ _).1 is.3)) in
            (capacity_of p i, (says.capacities i (capacity_of p i) (sound.capacities i within).0).0 refl);
        lengths = λ t is.
            let within : InRange t p.types = (is.4.0, omega (arith, is.4, ((plan_says p sound).counts _ _ _).1 is.3)) in
            (length_of p t, (says.lengths t (length_of p t) (sound.lengths t within).0).0 refl);
        demands = λ t k is.
            let f = entry_found T p.types p.lengths (T t is.0) (own_section p (T t is.0) is.1).1 in
            let kind : t ≡ f.0 = ap (λ (x : Record). x.first) f.3 in
            let longest : length_of p t ≡ is.0 = (says.lengths t is.0 (omega (arith, is.2))).1 is.1 in
            let stage : IsStage p t k = ((omega (arith, f.1, kind), omega (arith, f.1, kind)), (is.2.0, omega (arith, is.2, longest))) in
            let some = (sound.stages t k stage).some in
            let v = demand_of p some.0 t k in
            (some.0, v, (says.demands t k some.0 v some.2).0 refl);
        bounds = λ w is.
            let within : InRange w p.rows = (is.4.0, omega (arith, is.4, ((plan_says p sound).counts _ _ _).1 is.3)) in
            (bound_of p w, ((plan_says p sound).bounds w (bound_of p w) within).0 refl);
        ranks = ranks_said;
      }

  -- every question of every line is met
  module _ (text : List ℕ) where
    line_holds : (rs : List Record) (r : Record) (qs : List Record) (n from : ℕ) → plan_records p ≡ rs ++ r ∷ qs → Kept rs (draft_of rs) → CanonicalFits r
        → AllHold (line_conditions text rs n from (record_line r))
    line_holds rs r qs n from whole kept s =
        let taken = next p sound rs r qs whole kept in (
          line_formed r s,
          (
            λ e. rw (section_told r s) taken.three,
            (
              λ e. line_fielded r s,
              (λ e. rw (record_back r s) taken.five, (λ e. rw (record_back r s) taken.six, (λ e. rw (record_back r s) taken.total, tt))),
            ),
          ),
        )

    hold_from : (qs rs : List Record) → plan_records p ≡ rs ++ qs → Kept rs (draft_of rs) → Each CanonicalFits rs → Each CanonicalFits qs
        → AllHold (lines_conditions text (map record_line rs) (map record_line qs))
    hold_from [] rs whole kept before s = tt
    hold_from (r ∷ qs) rs whole kept before s =
        let rest = hold_from qs (rs ++ r ∷ []) (whole ∙ sym (append_assoc rs (r ∷ []) qs)) (next p sound rs r qs whole kept).after
        (append_each CanonicalFits rs (r ∷ []) before (s.0, tt)) s.1 in
        let lines = map record_line rs in
        conditions_append Holds (line_conditions text (records_of lines) (length lines + 1) (start_after lines) (record_line r)) (lines_conditions text (lines ++ record_line r ∷ []) (map record_line qs))
        (rw (records_back rs before) (line_holds rs r qs (length lines + 1) (start_after lines) whole kept s.0))
        (rw map-append at rest)

  -- each line of the text is a record's, with its LF
  pub written_lines : lines_of (canonical_text p) ≡ map record_line (plan_records p)
  unfolding canonical_text
  written_lines = lines_back (plan_records p) (canonical_fits p sound)

  pub written_records : records_of (lines_of (canonical_text p)) ≡ plan_records p
  written_records = ap records_of written_lines ∙ records_back (plan_records p) (canonical_fits p sound)

  module _ (short : length (canonical_text p) ≤ max_text) where
    accepts : Accepts (canonical_text p) (reading (canonical_text p))
    accepts =
        all_met (Accepts (canonical_text p)) (text_conditions (canonical_text p)) (reading (canonical_text p)) (
          short,
          conditions_append Holds (lines_conditions (canonical_text p) [] (lines_of (canonical_text p))) (last_conditions (canonical_text p) (lines_of (canonical_text p)))
              (rw written_lines (hold_from (canonical_text p) (plan_records p) [] refl nothing_kept tt (canonical_fits p sound))) (rw written_records complete, tt),
        )
        (reading_first_failure (canonical_text p))

    -- reading the text of a sound plan answers 0 and gives the same plan
    written_accepted : text_number (reading (canonical_text p)).answer ≡ 0
    written_accepted = accepts.says.number

    same_plan : Sized p → (reading (canonical_text p)).plan ≡ p
    same_plan sized =
        says_whole (plan_records p) (reading (canonical_text p)).plan p accepts.sized sized accepts.sound sound
        (subst (λ rs. RecordsSaySoFar rs (reading (canonical_text p)).plan) written_records accepts.plan.so_far) says

    pub written_read : Sized p → reading (canonical_text p) ≡ accepted p
    written_read sized =
        let handed = (accepted_whole (canonical_text p) written_accepted).handed in
        handed ∙ ap accepted (sym (ap (λ (a : Reading). a.plan) handed) ∙ same_plan sized)

-- two sound plans with the same text are equal, however long it is
pub same_text_same_plan : (p q : Plan) → Sound p → Sound q → Sized p → Sized q → canonical_text p ≡ canonical_text q → p ≡ q
same_text_same_plan p q sound too sized as-sized e =
    let same : plan_records q ≡ plan_records p =
    sym (written_records q too) ∙ ap (λ text. records_of (lines_of text)) (sym e) ∙ written_records p sound in
    says_whole (plan_records p) p q sized as-sized sound too (plan_says p sound).so_far (subst (λ rs. RecordsSaySoFar rs q) same (plan_says q too).so_far)
