-- The records that are put are those of the plan's stages, and how long their text is at most.
pub mod StageRecords
pub mod Lengths
