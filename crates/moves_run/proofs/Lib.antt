-- What a turn of the loop that answers the events does.
pub mod Turn
