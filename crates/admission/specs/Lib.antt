-- The table as a value, and what its methods hand back.
pub mod Table
