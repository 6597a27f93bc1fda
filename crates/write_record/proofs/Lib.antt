-- The digits of a short number, a line as it grows, and its fields.
pub mod Digits
pub mod LineGrown
pub mod Fields
-- What its callers cite.
pub mod RecordsPut
-- How long the text of records is at most.
pub mod Lengths
