pub mod Ratio
pub mod Numbers
pub mod StepsTaken
