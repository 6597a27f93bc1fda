-- What is written is the one entry of the record's key, or the counts.
use Rattle.std.proofs.Common.{rules, refl, ◌∙◌}
use Rattle.read_draft.proofs.Written.{counts_written, capacity_written, lengths_written, bound_written, rank_written, stage_written, nothing_written}
use Rattle.read_draft.proofs.FramedDraft.write_at.Goals as goal

pub returns-in-1 : goal.returns-in-1
returns-in-1 c = counts_written c.args.self.now c.args.rec _ c.section_after-self.ensures _ _ _ c.in-1.is refl refl refl

pub returns-in-2 : goal.returns-in-2
returns-in-2 c = capacity_written c.args.self.now c.args.rec _ c.section_after-self.ensures _ c.in-2.is c.put_entry.ensures

pub returns-in-3 : goal.returns-in-3
returns-in-3 c = lengths_written c.args.self.now c.args.rec _ c.section_after-self.ensures _ c.in-3.is c.put_entry-in-3.ensures

pub returns-in-4 : goal.returns-in-4
returns-in-4 c = c.write_named.ensures ∙ stage_written c.args.self.now c.args.rec _ c.section_after-self.ensures c.in-4.is

pub returns-in-5 : goal.returns-in-5
returns-in-5 c = bound_written c.args.self.now c.args.rec _ c.section_after-self.ensures _ _ c.in-5.is c.put_bound.ensures c.put_entry-in-5.ensures

pub returns-in-7 : goal.returns-in-7
returns-in-7 c = rank_written c.args.self.now c.args.rec _ c.section_after-self.ensures _ c.in-7.is c.put_entry-in-7.ensures

pub returns-in_default : goal.returns-in_default
returns-in_default c =
    nothing_written c.args.self.now c.args.rec _ c.section_after-self.ensures (search rules) (search rules) (search rules) (search rules) (search rules) (search rules)
    (search rules)
