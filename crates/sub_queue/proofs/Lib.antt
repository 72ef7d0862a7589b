pub mod BoardStays
mod Examples
pub mod InOrderStays
pub mod RisingItems
