-- The laws of a cell in the bytes of a host. Read in this order.
pub mod Cells
pub mod EntryBytes
pub mod Parts
pub mod Lent
pub mod ReadBack
pub mod PlanRead
pub mod CheckFits
pub mod ShownFits
pub mod HostAnswers
pub mod HostRuns
