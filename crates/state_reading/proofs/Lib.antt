pub mod KeyLaws
pub mod LineLaws
pub mod UpdateLaws
pub mod TodoLaws
pub mod ValueLaws
pub mod SettingLaws
pub mod OptLaws
