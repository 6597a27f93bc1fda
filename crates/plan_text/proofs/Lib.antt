-- The laws of the plan text, about its definitions. Read in this order.
pub mod Split
pub mod LineByLine
pub mod LineReading
pub mod LineForm
pub mod RecordLists
pub mod Sections
pub mod StageWritten
pub mod Kept
pub mod KeptAfter
pub mod RecordQuestions
pub mod Completeness
pub mod RecordsSay
pub mod FirstFailure
pub mod AcceptedText
pub mod SamePlan
pub mod OneReading
pub mod NthLine
-- What serves the proofs of code: a line's questions in groups, numbers cut to what entries hold, and the tags of an answer.
pub mod ReaderSteps
pub mod TextAnswerTags
