-- Laws of polling.
pub mod Polls
pub mod Receiving
pub mod NothingLost
pub mod Bounds
pub mod Attained
pub mod Refuses
pub mod Silence
pub mod Worked
pub mod Brought
