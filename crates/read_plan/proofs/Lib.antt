-- What a line is answered, and what holds while a text is read.
pub mod Line
pub mod Going
