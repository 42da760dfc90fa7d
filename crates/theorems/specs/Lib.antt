pub mod TagLines
pub mod Descendants
pub mod Laws
pub mod Seams
pub mod Continued
pub mod ContinuedExamples
