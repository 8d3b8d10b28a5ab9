mod Examples
pub mod WordLaws
pub mod NumberLaws
pub mod RatioLaws
pub mod HexLaws
pub mod OptionLaws
pub mod ReturnLaws
pub mod Searches
