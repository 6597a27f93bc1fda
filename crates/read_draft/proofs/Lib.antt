-- The laws behind the code: an entry of a stage among its bytes, read and put there; the stage that a record names; and a draft after a record of each section.
pub mod StageEntries
pub mod StageBytes
pub mod Stages
pub mod Written
