pub mod RoundTrip
pub mod Return
pub mod Bound
