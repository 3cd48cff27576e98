pub mod RefusedTexts
pub mod RefusedReports
pub mod Decided
pub mod ClaimLists
pub mod TrueGoals
pub mod OwnGoals
