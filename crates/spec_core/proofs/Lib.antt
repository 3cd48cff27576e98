pub mod Instances
pub mod Keeps
pub mod Groups
pub mod Determined
pub mod Values
pub mod BooleanValues
pub mod Names
pub mod Guarded
pub mod OneSort
pub mod Table
pub mod OneVerdict
pub mod Fresh
pub mod LeastSizes
pub mod Rounds
pub mod SmallValues
pub mod Ranges
pub mod SortedNaturals
pub mod ByNumber
pub mod SmallShapes
mod Covered
pub mod Findings
pub mod Constructors
pub mod RuleTables
mod Decimals
