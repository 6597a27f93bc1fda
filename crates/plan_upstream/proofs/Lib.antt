-- The laws behind the code of the upstream check.
pub mod Stages
pub mod RowSearch
pub mod TypeEnds
pub mod LentStage
pub mod RowWalk
