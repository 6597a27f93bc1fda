-- A draft after a record of each section: what is written is the one entry of its key, or the counts.
use Prim.Native.Nat.{ℕ, ◌%◌}
use native.Mathlib.Omega.{arith}
use mathlib.Core.List.{List}
use mathlib.Core.Logic.{◌≢◌, ◌⊎◌, inl, inr}
use borrow.Author.Tests.{ne_eqb}
use mathlib.Core.Path.{◌≡◌, refl, sym, ap, ◌∙◌}
use Rattle.plan_bytes.specs.Over.{plan_read}
use Rattle.plan_text.specs.Draft.{Draft, put, index_named, of_section, draft_after}
use Rattle.plan_text.specs.ReaderInternals.{narrowed}
use Rattle.plan_text.specs.Meaning.{line}
use Rattle.plan_text.specs.declared.Record.{Record}
use Rattle.plan_text.proofs.Sections.{of_section_lem}
use Rattle.plan_text.proofs.StageWritten.{stages_same}
use Rattle.read_draft.specs.declared.FramedDraft.{FramedDraft}
use Rattle.read_draft.specs.Drafted.{drafted, staged}

pub narrowed_at : (n : ℕ) (r : Record) → r.section ≡ n → narrowed r ≡ narrowed (line n r.first r.second r.third r.fourth)
narrowed_at n r e = ap narrowed (of_section_lem n r e)

-- a record that names no stage leaves the stages
settled : (d : Draft) (q : Record) → q.section ≢ 4 → q.section ≢ 6
    → record (draft_after d q) { plan = record (draft_after d q).plan { stages = d.plan.stages } } ≡ draft_after d q
settled d q a b = ap (λ ss. record (draft_after d q) { plan = record (draft_after d q).plan { stages = ss } }) (sym (stages_same d q a b))

module _ (d : FramedDraft) (r : Record) (s : ℕ) (last : s ≡ of_section r 0 d.section r.section) where
  abbrev next : Draft
  next = draft_after (drafted d) (narrowed r)

  section_of : (n : ℕ) → r.section ≡ n → s ≡ of_section (line n 0 0 0 0) 0 d.section n
  section_of n e = last ∙ ap (λ m. of_section (line m 0 0 0 0) 0 d.section m) e

  pub counts_written : (resources types rows : ℕ) → r.section ≡ 1 → resources ≡ r.first % 256 → types ≡ r.second % 256 → rows ≡ r.third % 256
      → drafted (record d { frame = record d.frame { resources = resources; types = types; rows = rows }; section = s }) ≡ next
  unfolding draft_after plan_read
  counts_written resources types rows e a b c =
      (λ i. drafted (record d { frame = record d.frame { resources = a i; types = b i; rows = c i }; section = section_of 1 e i }))
      ∙ settled (drafted d) (narrowed (line 1 r.first r.second r.third r.fourth)) (λ k. omega arith) (λ k. omega arith)
      ∙ ap (draft_after (drafted d)) (sym (narrowed_at 1 r e))

  pub capacity_written : (xs : List ℕ) → r.section ≡ 2 → xs ≡ put d.frame.capacity r.first (r.second % 256)
      → drafted (record d { frame = record d.frame { capacity = xs }; section = s }) ≡ next
  unfolding draft_after plan_read
  capacity_written xs e a =
      (λ i. drafted (record d { frame = record d.frame { capacity = a i }; section = section_of 2 e i }))
      ∙ settled (drafted d) (narrowed (line 2 r.first r.second r.third r.fourth)) (λ k. omega arith) (λ k. omega arith)
      ∙ ap (draft_after (drafted d)) (sym (narrowed_at 2 r e))

  pub lengths_written : (xs : List ℕ) → r.section ≡ 3 → xs ≡ put d.frame.lengths r.first (r.second % 256)
      → drafted (record d { frame = record d.frame { lengths = xs }; section = s }) ≡ next
  unfolding draft_after plan_read
  lengths_written xs e a =
      (λ i. drafted (record d { frame = record d.frame { lengths = a i }; section = section_of 3 e i }))
      ∙ settled (drafted d) (narrowed (line 3 r.first r.second r.third r.fourth)) (λ k. omega arith) (λ k. omega arith)
      ∙ ap (draft_after (drafted d)) (sym (narrowed_at 3 r e))

  pub bound_written : (xs ys : List ℕ) → r.section ≡ 5 → xs ≡ put d.frame.bound r.first (r.second % 65536) → ys ≡ put d.bounded r.first 1
      → drafted (record d { frame = record d.frame { bound = xs }; bounded = ys; section = s }) ≡ next
  unfolding draft_after plan_read
  bound_written xs ys e a b =
      (λ i. drafted (record d { frame = record d.frame { bound = a i }; bounded = b i; section = section_of 5 e i }))
      ∙ settled (drafted d) (narrowed (line 5 r.first r.second r.third r.fourth)) (λ k. omega arith) (λ k. omega arith)
      ∙ ap (draft_after (drafted d)) (sym (narrowed_at 5 r e))

  pub rank_written : (xs : List ℕ) → r.section ≡ 7 → xs ≡ put d.frame.rank r.first (r.second % 256)
      → drafted (record d { frame = record d.frame { rank = xs }; section = s }) ≡ next
  unfolding draft_after plan_read
  rank_written xs e a =
      (λ i. drafted (record d { frame = record d.frame { rank = a i }; section = section_of 7 e i }))
      ∙ settled (drafted d) (narrowed (line 7 r.first r.second r.third r.fourth)) (λ k. omega arith) (λ k. omega arith)
      ∙ ap (draft_after (drafted d)) (sym (narrowed_at 7 r e))

  demand_written : r.section ≡ 4 → staged (drafted (record d { section = s })) r ≡ next
  unfolding draft_after plan_read index_named
  demand_written e =
      ap (λ n. staged (drafted (record d { section = n })) r) (section_of 4 e)
      ∙ ap (staged (drafted (record d { section = 4 }))) (of_section_lem 4 r e)
      ∙ ap (draft_after (drafted d)) (sym (narrowed_at 4 r e))

  weight_written : r.section ≡ 6 → staged (drafted (record d { section = s })) r ≡ next
  unfolding draft_after plan_read index_named
  weight_written e =
      ap (λ n. staged (drafted (record d { section = n })) r) (section_of 6 e)
      ∙ ap (staged (drafted (record d { section = 6 }))) (of_section_lem 6 r e)
      ∙ ap (draft_after (drafted d)) (sym (narrowed_at 6 r e))

  -- either of the two that name a stage
  pub stage_written : (r.section ≡ 4) ⊎ (r.section ≡ 6) → staged (drafted (record d { section = s })) r ≡ next
  stage_written (inl e) = demand_written e
  stage_written (inr e) = weight_written e

  -- what is no record writes nothing
  pub nothing_written : r.section ≢ 1 → r.section ≢ 2 → r.section ≢ 3 → r.section ≢ 4 → r.section ≢ 5 → r.section ≢ 6 → r.section ≢ 7
      → drafted (record d { section = s }) ≡ next
  unfolding draft_after plan_read
  nothing_written c r2 t st b a k =
      ap (λ n. drafted (record d { section = n })) last
      ∙ same
      ∙ settled (drafted d) (narrowed r) st a
    where
      same : drafted (record d { section = of_section r 0 d.section r.section })
          ≡ record (draft_after (drafted d) (narrowed r)) { plan = record (draft_after (drafted d) (narrowed r)).plan { stages = (drafted d).plan.stages } }
      same = rw (ne_eqb r.section 1 c, ne_eqb r.section 2 r2, ne_eqb r.section 3 t, ne_eqb r.section 5 b, ne_eqb r.section 7 k) refl
