-- The text in a buffer.
pub mod Sink
