pub mod Transitions
pub mod Runs
pub mod Justice
pub mod Masks
pub mod MaskLaws
pub mod Tests
