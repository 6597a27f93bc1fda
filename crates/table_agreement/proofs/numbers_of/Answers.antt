use Rattle.std.proofs.Common.{◌≡◌, ℕ, ◌*◌, ◌<◌, get_or, length, sym, ap, ◌∙◌, arith, rules}
use Rattle.std.proofs.Math.ListN.{length-map, get_or-map}
use Rattle.std.proofs.lemmas.List.{ext_get_or}
use Rattle.model.specs.Jobs.{no_job, numbers}
use Rattle.model.specs.declared.Job.{Job}
use Rattle.internals.specs.JobNumbers.{jobs_laid}
use Rattle.internals.proofs.FromFn.{made_by}
use Rattle.internals.proofs.JobsLaid.{slots_laid, job_laid}
use Rattle.table_agreement.proofs.numbers_of.Goals as goal

abbrev number : Job → ℕ
number j = j.number

pub returns : goal.returns
returns c =
    let xs = c.args.jobs.now in
    let jobs = jobs_laid xs in
    let made = c.from_fn.ensures.items in
    let long : length (numbers jobs) ≡ 64 = length-map jobs number ∙ slots_laid xs in
    ext_get_or 0 c.from_fn.result (numbers jobs) (made.long ∙ sym long)
    (λ k h.
    let room : k < 64 = omega (arith, made.long) in
    let same = get_or-map number jobs k no_job ∙ ap number (job_laid xs k no_job room) in
    made_by _ _ (λ i. get_or xs (i * 3) 0) (λ i y q called. search rules) _ 64 made k room 0 ∙ sym same)
