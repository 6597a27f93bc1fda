-- What the table has for a section's fields.
pub mod Table
