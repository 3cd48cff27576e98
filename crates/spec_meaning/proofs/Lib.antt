pub mod SortCheckTypes
mod SameWords
mod SameDeclarations
mod SameOrders
mod SameRules
mod SameGoals
pub mod SameSpecs
pub mod Upgrading
