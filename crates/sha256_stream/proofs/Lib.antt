pub mod Absorbing
pub mod Padding
pub mod AbsorbedLaws
