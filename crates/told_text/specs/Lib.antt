-- What a person is told, in words on standard error, to be read in this order: what each published number means, the common slips, what
-- is said of a plan, and what is said of an event.
pub mod Words
pub mod Slips
pub mod PlanMessage
pub mod EventMessage
