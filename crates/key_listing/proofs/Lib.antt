-- Laws of the listing.
pub mod Used
pub mod Calls
pub mod Steps
pub mod Listing
pub mod Writing
pub mod Worked
