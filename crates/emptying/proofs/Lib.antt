-- The laws of the ledger and of runs, and the emptying theorem. Read in this order.
pub mod Ledger
pub mod Emptying
