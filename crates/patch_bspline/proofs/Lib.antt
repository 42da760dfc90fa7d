mod CornerLemmas
mod MaskLemmas
mod PutLemmas
mod RegularLemmas
mod SplineLemmas
