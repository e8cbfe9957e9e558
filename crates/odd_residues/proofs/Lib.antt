pub mod NewtonSteps
pub mod Reductions
