pub mod OneRequest
mod Askings
