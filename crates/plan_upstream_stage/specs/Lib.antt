-- The weight that is due to a stage.
pub mod Due
