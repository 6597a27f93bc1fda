-- What `cellmoves` reads and prints, to be read in this order: quoted text, numbers and fields as bytes, the input's two parts, the event
-- lines, the lines of the output, the output as document 01 words it, the same computed, what it has to do with the emptying
-- theorem, and a buffer with something written into it.
pub mod Quoted
pub mod Decimals
pub mod Division
pub mod EventLines
pub mod OutputLines
pub mod Prints
pub mod Output
pub mod PrintedRule
pub mod Buffer
