-- The laws of `host`.
pub mod Numbers
pub mod Zero
pub mod Reports
pub mod Promises
pub mod ReportPromises
