-- Reading on from line to line.
pub mod Onward
