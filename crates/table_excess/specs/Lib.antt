-- What the parts of the excess hand each other, for their contracts and proofs alone.
pub mod Exchanges
