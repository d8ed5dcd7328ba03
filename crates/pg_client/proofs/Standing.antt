-- Where a client stands, and what its users see of that.
pub mod Said
pub mod Agreeing
pub mod Facts
pub mod FactsHold
