pub mod UniformLemmas
