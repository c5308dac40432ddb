pub mod Rows
pub mod Ways
pub mod AllOrders
pub mod Ascending
pub mod Narrow
pub mod Members
