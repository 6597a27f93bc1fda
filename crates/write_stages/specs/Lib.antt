-- What inner functions put.
pub mod StageRecords
