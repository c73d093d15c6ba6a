-- Laws of the values.
pub mod Values
-- Laws of the coding of numbers.
pub mod Groups
pub mod Going
pub mod Lengths
pub mod NumberPutting
pub mod RoundTrip
pub mod Shortest
pub mod Coded
pub mod WorkedNumbers
-- Laws of preferences as bytes.
pub mod Steps
pub mod Codings
pub mod Putting
pub mod NumbersLaws
pub mod Records
pub mod Readers
pub mod Worked
