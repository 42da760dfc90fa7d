pub mod Significant
pub mod NumeralFaults
pub mod NumeralParts
pub mod NumeralTerms
