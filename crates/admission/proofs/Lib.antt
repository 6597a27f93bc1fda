-- What the methods have in common.
pub mod HandedBack
