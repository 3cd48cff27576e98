-- A page that is written by events, in HTML or plain text.
pub mod Events
pub mod Examples
pub mod Head
pub mod Html
pub mod Laws
pub mod Markup
pub mod Pages
pub mod PlainText
