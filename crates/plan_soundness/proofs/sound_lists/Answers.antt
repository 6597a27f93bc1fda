use Rattle.std.proofs.Common.{sym, ◌∙◌}
use Rattle.plan_soundness.proofs.Counts.{total_within}
use Rattle.plan_soundness.proofs.sound_lists.Goals as goal
use Rattle.plan_soundness.proofs.sound_lists.Goals.{then-sound_ranks, else-sound_ranks}

pub returns-then-sound_lengths-clause-total_bound : goal.returns-then-sound_lengths-clause-total_bound
returns-then-sound_lengths-clause-total_bound c e =
    elim c.if-sound_ranks.branch [
      | then-sound_ranks w ↦
          rw (← w.from.ensures) (
          total_within w.from.result c.args.lengths.now (sym w.sound_lengths.ensures ∙ sym w.value-is ∙ c.if-sound_lengths.true))
      | else-sound_ranks w ↦ absurd cc
    ]
