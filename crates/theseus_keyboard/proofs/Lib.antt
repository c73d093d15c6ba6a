-- Lemmas.
pub mod HandlerFlags
pub mod HandlerEvents
pub mod HandlerBytes
pub mod Call
pub mod Left
pub mod Agree
pub mod Detected
pub mod Told
pub mod FollowedAlike
pub mod Alone
pub mod AlonePorts
pub mod AloneSent
pub mod AloneTold
