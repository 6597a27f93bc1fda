-- The laws of the canonical text, about its definitions and those of the reading alone. Read in this order.
pub mod Lists
pub mod Members
pub mod Order
pub mod RecordText
pub mod Taken
pub mod ReadBack
pub mod NotLonger
pub mod WriteAnswers
pub mod CanonicalOutput
