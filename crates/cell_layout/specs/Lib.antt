-- A cell in the bytes of a host, to be read in this order: how a plan and a table lie there, which of them there is room for, and what is
-- answered and written; and the emptying rule as a host has it.
pub mod Layout
pub mod Fitting
pub mod HostAnswers
pub mod HostRule
