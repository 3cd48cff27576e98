pub mod SymbolsInRange
mod Accepting
mod Told
