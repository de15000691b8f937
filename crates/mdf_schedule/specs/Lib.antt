pub mod Outcomes
pub mod Records
pub mod Schedules
pub mod Forms
pub mod Joined
