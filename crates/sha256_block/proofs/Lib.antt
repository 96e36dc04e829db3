pub mod Words
pub mod Compression
pub mod Schedules
pub mod PaddingCasesLaws
pub mod PaddingLaws
