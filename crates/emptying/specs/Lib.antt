-- Whole lists of events and what is claimed of them, to be read in this order.
pub mod Ledger
pub mod Run
pub mod Emptying
