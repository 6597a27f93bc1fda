-- The fields of a section as code has them, and what their ranges are computed from, as a frame has it.
use Rattle.plan_bytes.specs.declared.Frame.{Frame}
use Rattle.plan_text.specs.Records as records
use Rattle.plan_text.specs.RecordTests.{Known}
use Rattle.read_ranges.specs.declared.Field.{Field}
use Rattle.read_ranges.specs.declared.Field.TheVariants.{Between, Resource, Kind, Row, Stage, Units}

-- what a field of the code says
abbrev pub field_said : Field → records.Field
field_said (Between low high) = records.between low high
field_said Resource = records.resource
field_said Kind = records.kind
field_said Row = records.row
field_said Stage = records.stage
field_said Units = records.units

-- the counts, the capacities and the stages per type of a frame
abbrev pub known_in : Frame → Known
known_in f =
    record { resources = f.resources; types = f.types; rows = f.rows; capacity = f.capacity; lengths = f.lengths }
