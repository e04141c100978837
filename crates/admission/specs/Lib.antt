pub mod Demand
pub mod Bounded
pub mod Tried
pub mod Admit
pub mod Worst
pub mod Prohibition
pub mod IdleMost
pub mod Opened
