-- The lines of settings, rules and rows.
pub mod LineSorts
pub mod PlainLines
pub mod RuleLines
pub mod RuleTexts
pub mod Clean
