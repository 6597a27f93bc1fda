-- What the parts of the check compute.
pub mod CheckInternals
