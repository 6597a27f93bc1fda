-- The laws behind the code that reads an input's lines: the mark, and the plan before it line by line.
pub mod PlanEnd
