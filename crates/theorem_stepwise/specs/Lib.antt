-- A session makes its operation's path, and hands back what the one call on the whole script does.
pub mod Operations
pub mod Runs

-- Each operation's talk is the tree of its definition: proofs/ says which.
