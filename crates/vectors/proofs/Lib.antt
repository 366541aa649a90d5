-- Cases of an independent implementation, held against the definitions under one claim.
pub mod Cases
pub mod Large
