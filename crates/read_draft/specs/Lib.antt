-- The draft that runs, and the bytes of a stage after a record.
pub mod Drafted
pub mod StageBytes
