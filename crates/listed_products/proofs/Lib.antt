-- The message of the first k symbols of a lane, and the products that tell it.
pub mod First
pub mod Products
pub mod OneLane
