-- The law behind the code that writes.
pub mod PartLaid
