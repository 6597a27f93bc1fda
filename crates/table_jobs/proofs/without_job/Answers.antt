use Rattle.std.proofs.Common.{◌≡◌, ◌-◌, ◌<◌, List, length, slice_set, refl, ap, ◌∙◌, arith}
use Rattle.model.specs.declared.Job.{Job}
use borrow.Author.Tests.{lt-ltb, le-ltb, le-leb, lt-leb}
use Rattle.model.specs.Jobs.{no_job}
use Rattle.internals.specs.Internals.{without_job}
use Rattle.internals.proofs.ClosingGap.{gap_closed}
use Rattle.table_jobs.proofs.without_job.Goals as goal

pub returns-then-count-at : goal.returns-then-count-at
unfolding without_job
returns-then-count-at c = let a = c.args in rw (le-ltb a.at a.t.count c.if-count-at.true) refl

pub returns-then-count-gt64 : goal.returns-then-count-gt64
unfolding without_job
returns-then-count-gt64 c =
    let a = c.args in
    rw (lt-ltb a.at a.t.count c.if-count-at.false, lt-leb a.t.count 64 c.if-count-gt64.true) refl

pub returns : goal.returns
unfolding without_job
returns c =
    let a = c.args in
    let js = a.t.jobs in
    let slots : length js ≡ 64 = omega arith in
    let low : a.at < length js = omega (arith, c.if-count-at.false, c.if-count-gt64.false) in
    let closed = gap_closed js a.at 63 no_job low (omega arith) in
    rw (lt-ltb a.at a.t.count c.if-count-at.false, le-leb a.t.count 64 c.if-count-gt64.false)
    (ap (λ (jobs : List Job). record { count = a.t.count - 1; jobs = jobs }) (ap (λ (next : List Job). slice_set next 63 no_job) c.copy_within.ensures.after ∙ closed))
