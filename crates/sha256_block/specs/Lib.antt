-- FIPS 180-4; its padding by cases, and the theorem that both are one.
pub mod Sha256
pub mod Lanes
pub mod PaddingCases
pub mod Padding
