pub mod Report
pub mod RuleNames
pub mod Verdicts
