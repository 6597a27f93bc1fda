-- What serves the proofs here.
pub mod Turns
