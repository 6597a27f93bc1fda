-- The laws of the model, about its definitions. Read in this order.
pub mod Decide
pub mod Lists
pub mod Sums
pub mod Flat
pub mod Jobs
pub mod Soundness
pub mod Upstream
pub mod Progress
-- What serves the proofs of code: how loops end, flags of chained tests and of loops, and the lengths of a plan's arrays.
pub mod Search
pub mod Flags
