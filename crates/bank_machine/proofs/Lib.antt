-- Rules with one left side, moves between states, and the stack that stands for a state.
mod Asked
mod Pending
mod Moving
mod Owing
mod Running
mod Fitting
mod RightCalls
mod Numbers
mod Ranging
mod Stacked
mod Entering
mod StackMoves
mod Deciding
mod Fuelled
mod RunsOn
mod Starting
