-- The laws behind the code of the excess. Read in this order.
pub mod SumAfter
pub mod RowWeights
