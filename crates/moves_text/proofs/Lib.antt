-- The laws of what `cellmoves` reads and prints. Read in this order.
pub mod Decimals
pub mod Divided
pub mod LineMeanings
pub mod Replies
pub mod Printed
pub mod PrintedEmptied
pub mod PrintedOnce
pub mod AfterRefusal
pub mod CountedFew
pub mod Places
pub mod Enough
-- What serves the proofs of code: a text laid over a buffer piece by piece, event lines answered one after the other, and the parts
-- of the output.
pub mod Overlays
pub mod ReplySteps
pub mod OutputParts
