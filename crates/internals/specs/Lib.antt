-- What the inner functions compute, for their contracts and proofs alone.
pub mod Internals
pub mod JobNumbers
