-- A draft as it runs, with a frame and bytes for its plan, is a draft.
use Rattle.std.specs.Prelude.{set}
use Rattle.plan_bytes.specs.Over.{plan_read}
use Rattle.plan_text.specs.Draft.{Draft, index_named, stage_here, stage_after_record}
use Rattle.plan_text.specs.ReaderInternals.{narrowed}
use Rattle.plan_text.specs.declared.Record.{Record}
use Rattle.read_draft.specs.declared.FramedDraft.{FramedDraft}

abbrev pub drafted : FramedDraft → Draft
drafted d = record { plan = plan_read d.frame d.stages; bounded = d.bounded; section = d.section }

-- a draft with the demand of an S or the weight of an A in the stage that it names
abbrev pub staged : Draft → Record → Draft
staged d r =
    let p = d.plan in
    record d { plan = record p { stages = set p.stages (index_named p.lengths r) (stage_after_record (stage_here p r) (narrowed r)) } }
