pub mod ForCallers
pub mod Lists
pub mod Locations
pub mod ChainLaws
pub mod RankLaws
pub mod SumLaws
pub mod DrawLaws
pub mod Wants
