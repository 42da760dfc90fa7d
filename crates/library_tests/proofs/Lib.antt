mod RowLemmas
mod StepLemmas
