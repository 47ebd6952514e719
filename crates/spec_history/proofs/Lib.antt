-- The proof of demand 3: the claim from laws of one state and of one call, those laws, and the claim with no hypothesis.
pub mod Passed
pub mod Whole
pub mod OneState
pub mod Accepted
pub mod Stored
pub mod Change
pub mod Ended
pub mod Written
pub mod Forked
pub mod Moved
pub mod Loaded
pub mod EachCall
pub mod Arguments
pub mod Demand3
pub mod Named
pub mod Users
pub mod Shared
