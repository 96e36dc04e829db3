-- What decoding rests on, and the way there and back.
mod DecodeLaws
pub mod RoundTrip
