-- What a run hands back, and what is claimed of it.
pub mod Run
pub mod RunRule
