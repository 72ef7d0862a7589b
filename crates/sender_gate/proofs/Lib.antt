pub mod ClaimLemmas
pub mod FlightLemmas
pub mod KeptLemmas
pub mod SenderRows
