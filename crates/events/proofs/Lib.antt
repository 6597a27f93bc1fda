-- The laws of the job list, the events and the drain. Read in this order.
pub mod JobLists
pub mod Answers
pub mod Reuse
pub mod Excess
pub mod Moves
pub mod Drain
-- What serves the proofs of code: the length of a job list's array, and what a branch on an answer knows.
pub mod AnswerTags
