-- What a plan text means, to be read in this order: its lines, the line that begins at an offset, its records, what records say of a
-- plan, the questions 1 to 7 as they are worded, and the same computed: the tests of fields and ranges, the plan that records write, and
-- the text read.
pub mod Lines
pub mod LineReading
pub mod TextParts
pub mod NthLine
pub mod Records
pub mod Meaning
pub mod TextQuestions
pub mod RecordTests
pub mod Draft
pub mod Reading
pub mod Framed
-- What inner functions of the reader compute, and what their proofs go by; no promise rests on it.
pub mod ReaderInternals
