-- Reading to the end.
pub mod ToEnd
