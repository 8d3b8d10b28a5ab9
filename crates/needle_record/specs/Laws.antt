-- What the laws stand on: each field, then contents and records, then the records of a data file.
pub mod FieldSizes
pub mod Again
pub mod Fronts
pub mod Spelled
pub mod Unspelled
pub mod Found
pub mod Appended
pub mod Ends
pub mod Headers
pub mod Places
pub mod Pushes
pub mod Cuts
pub mod Folds
pub mod Agreeing
pub mod Spelling
pub mod Records
