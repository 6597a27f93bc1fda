-- Each section has its own list and number, and a section that there is not has 0.
use Rattle.std.proofs.Common.{ℕ, refl, rules, sym, ap, ◌∙◌, List, [], ◌∷◌}
use lib.ListN.{get_or}
use Rattle.model.specs.Numbers.{at, entry}
use Rattle.model.specs.Plan.{no_stage}
use Rattle.model.specs.declared.Stage.{Stage}
use Rattle.plan_bytes.specs.Over.{plan_read}
use Rattle.plan_entry.proofs.Outside.{unmatched}
use Rattle.plan_text.specs.Draft.{stage_here, held_in}
use Rattle.plan_text.specs.declared.Record.{Record}
use Rattle.read_draft.specs.declared.FramedDraft.{FramedDraft}
use Rattle.read_draft.proofs.FramedDraft.held_at.Goals as goal

-- what is held, section by section
abbrev numbers : FramedDraft → Record → List ℕ
numbers d r =
    let s = stage_here (plan_read d.frame d.stages) r in
    d.section
    ∷ at d.frame.capacity r.first
    ∷ at d.frame.lengths r.first
    ∷ at s.demand r.third
    ∷ at d.bounded r.first
    ∷ at s.weight r.first
    ∷ at d.frame.rank r.first
    ∷ []

pub returns-in-1 : goal.returns-in-1
unfolding held_in plan_read
returns-in-1 c = rw c.in-1.is (refl)

pub returns-in-2 : goal.returns-in-2
unfolding held_in plan_read
returns-in-2 c = rw c.in-2.is (c.entry_of.ensures)

pub returns-in-3 : goal.returns-in-3
unfolding held_in plan_read
returns-in-3 c = rw c.in-3.is (c.entry_of-in-3.ensures)

pub returns-in-4 : goal.returns-in-4
unfolding held_in plan_read
returns-in-4 c =
    let d = c.args.self.now in
    let stage = c.stage_at-stage.ensures ∙ ap (λ (i : ℕ). get_or (plan_read d.frame d.stages).stages i no_stage) c.requires in
    let named = ap (λ (s : Stage). at s.demand c.args.rec.third) stage in
    c.demand_in.ensures ∙ named ∙ ap (λ (n : ℕ). entry (numbers c.args.self.now c.args.rec) n 0) (sym c.in-4.is)

pub returns-in-5 : goal.returns-in-5
unfolding held_in plan_read
returns-in-5 c = rw c.in-5.is (c.entry_of-in-5.ensures)

pub returns-in-6 : goal.returns-in-6
unfolding held_in plan_read
returns-in-6 c =
    let d = c.args.self.now in
    let stage = c.stage_at-stage.ensures ∙ ap (λ (i : ℕ). get_or (plan_read d.frame d.stages).stages i no_stage) c.requires in
    let named = ap (λ (s : Stage). at s.weight c.args.rec.first) stage in
    c.weight_in.ensures ∙ named ∙ ap (λ (n : ℕ). entry (numbers c.args.self.now c.args.rec) n 0) (sym c.in-6.is)

pub returns-in-7 : goal.returns-in-7
unfolding held_in plan_read
returns-in-7 c = rw c.in-7.is (c.entry_of-in-7.ensures)

pub returns-in_default : goal.returns-in_default
unfolding held_in plan_read
returns-in_default c =
    let r = c.args.rec in
    sym (unmatched (numbers c.args.self.now r) r.section 0 (((((((tt, search rules), search rules), search rules), search rules), search rules), search rules), search rules))
