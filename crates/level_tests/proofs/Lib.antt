mod FaceLemmas
mod LimitLemmas
mod QuarterLemmas
mod StepLemmas
mod ValueLemmas
