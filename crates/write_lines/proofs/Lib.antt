-- A byte of a sink, what is said of a sink, and how long the lines of the output are.
pub mod Bytes
pub mod Sinks
pub mod Lengths
