-- Every worked position holds.
pub mod WorkedPositions
