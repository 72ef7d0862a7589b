-- Whole runs, their accounts and their reports.
pub mod ByRunOfCore
pub mod AccountOfTransactions
pub mod KeptRuns
pub mod ReportOfView
pub mod SameView
pub mod HeldByNet
