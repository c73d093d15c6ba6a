-- What the numbers of an argument stand for.
pub mod Arguments
