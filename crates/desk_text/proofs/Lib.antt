-- The laws of the desk. Read in this order.
pub mod HeldLines
pub mod EveryCut
pub mod ReadSteps
