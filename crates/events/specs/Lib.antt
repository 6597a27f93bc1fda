-- What the proofs are about, to be read in this order. A type with a capital is a condition as document 01 words it, and
-- so are the lists named ..Conditions; a test, and what stands under "the same, computed", is what is answered. The laws
-- that join the two are in proofs/.
pub mod JobList
pub mod Events
pub mod Drain
