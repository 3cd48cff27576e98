-- What is found is a proof.
mod Checked
mod ListedGoals
