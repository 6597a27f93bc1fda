-- How a run goes event by event, and the emptying rule of what it returns.
pub mod EventByEvent
pub mod RunEmptied
