-- The canonical form of a plan (S-3 of document 02), to be read in this order: its records and its text, keys that rise, what the canonical text
-- is good for, what the writer answers and leaves in the buffer that it is lent, and what `cellplan` prints.
pub mod CanonicalText
pub mod Order
pub mod Laws
pub mod Writing
pub mod CanonicalOutput
-- What inner functions of the writer put; no promise rests on it.
pub mod WriterInternals
