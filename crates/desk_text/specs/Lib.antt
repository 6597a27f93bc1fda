-- What `celldesk` puts of each read, to be read in this order: the line that is held, one line of a read, a read, and a whole input
-- cut into reads.
pub mod HeldLine
pub mod Desk
pub mod DeskOutput
