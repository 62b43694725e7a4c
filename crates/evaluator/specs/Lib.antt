pub mod Commands
pub mod Evaluating
pub mod Evaluations
pub mod Outcomes
pub mod Promises
pub mod Rates
pub mod Refusals
pub mod Scopes
