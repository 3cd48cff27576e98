pub mod OwnOrders
mod Tests
