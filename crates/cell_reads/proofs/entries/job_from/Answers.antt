-- A part of the job is a part of the bytes.
use Rattle.std.proofs.Common.{sym, ap, ◌∙◌, arith}
use Rattle.cell_layout.specs.Layout.{value_of}
use Rattle.cell_layout.proofs.EntryBytes.{part_first, part_of_part}
use Rattle.cell_reads.proofs.entries.job_from.Goals as goal

pub returns : goal.returns
returns c =
    let a = c.args in
    let number = c.number_at.ensures ∙ ap value_of (sym (part_first 4 a.at 12 a.jobs.now (omega arith))) in
    let kind = c.number_at-2.ensures ∙ ap value_of (sym (part_of_part 4 4 a.at 12 a.jobs.now (omega arith))) in
    let stage = c.number_at-3.ensures ∙ ap value_of (sym (part_of_part 8 4 a.at 12 a.jobs.now (omega arith))) in
    λ i. record { number = number i; kind = kind i; stage = stage i }
