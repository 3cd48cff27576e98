pub mod Small
pub mod NextVariables
pub mod Summing
pub mod Standings
pub mod EachVariable
