mod Askings
mod ClaimedGoals
mod Endings
mod Viewings
mod ViewsWithin
