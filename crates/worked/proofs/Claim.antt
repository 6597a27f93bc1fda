-- Every row of the table of worked runs holds: antt computes the definitions on it.
use mathlib.Core.List.{map}
use mathlib.Core.Path.{◌≡◌, refl}
use Rattle.model.specs.Plan.{empty_plan, is_stage, all_stages, stage_of, demand_of, weight_of}
use Rattle.model.specs.Jobs.{over_stages, exceeded, worst_row, fits, agreeing}
use Rattle.model.specs.Soundness.{sound_counts, sound_capacities, sound_ranks, sound_lengths, sound_bounds, sound_stage, sound}
use Rattle.model.specs.Upstream.{ranked_up_to, upstream_of, one_unit, faulty_stage, faulty_type, upstream_row, faulty_row, faulty_bound, check}
use Rattle.events.specs.JobList.{list_of, agrees}
use Rattle.events.specs.Events.{answer, list_after}
use Rattle.events.specs.Drain.{drain_from, list_drain}
use Rattle.emptying.specs.Ledger.{entered}
use Rattle.plan_text.specs.Records.{record_in}
use Rattle.plan_text.specs.RecordTests.{in_ranges}
use Rattle.plan_text.specs.Draft.{empty_draft, index_named, draft_after, held_in}
use Rattle.plan_text.specs.Reading.{is_complete, reading}
use Rattle.moves_text.specs.Decimals.{decimal}
use Rattle.moves_text.specs.Division.{plan_length}
use Rattle.moves_text.specs.EventLines.{event_in}
use Rattle.moves_text.specs.Output.{output}
use Rattle.canonical_text.specs.CanonicalText.{canonical_text}
use Rattle.canonical_text.specs.Writing.{writing, buffer_after}
use Rattle.canonical_text.specs.CanonicalOutput.{canonical_output}
use Rattle.worked.specs.Texts.{capacity_text, large_capacity_text, stages_text, more_stages_text, repeated_text, unfinished_text, crossing_text, shuffled_text, one_stage_text, whole_input, whole_output, pull_input, pull_output, plan_numbers}
use Rattle.worked.specs.Plans.{crossing_with, crossing_plan, equation40, without_rows, one_station, one_stage, jobs_per_stage}
use Rattle.worked.specs.Runs.{Row, result, rows}

pub every_row_holds : map (λ (r : Row). result r.asked) rows ≡ map (λ (r : Row). r.expected) rows
unfolding all_stages stage_of demand_of weight_of over_stages exceeded worst_row is_stage fits agreeing sound_counts sound_capacities sound_ranks sound_lengths
    sound_bounds sound_stage sound ranked_up_to upstream_of one_unit faulty_stage faulty_type upstream_row faulty_row faulty_bound check list_of agrees
    answer list_after entered drain_from list_drain empty_plan record_in in_ranges empty_draft index_named draft_after held_in is_complete reading decimal plan_length event_in output canonical_text writing buffer_after canonical_output capacity_text large_capacity_text stages_text
    more_stages_text repeated_text unfinished_text crossing_text shuffled_text one_stage_text whole_input whole_output pull_input pull_output plan_numbers crossing_with crossing_plan equation40 without_rows one_station one_stage jobs_per_stage result rows
every_row_holds = refl
