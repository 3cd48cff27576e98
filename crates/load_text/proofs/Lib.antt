mod Bytes
mod Tokens
mod Admitted
mod LoadDeclarations
mod LoadGoals
mod CleanGoals
pub mod Accepted
