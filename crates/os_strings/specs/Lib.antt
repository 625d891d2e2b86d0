pub mod Errors
pub mod ValueLaws
pub mod SettingLaws
pub mod NumberLaws
pub mod MakingLaws
pub mod KeyLaws
pub mod QuoteLaws
