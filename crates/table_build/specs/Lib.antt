pub mod Faults
pub mod Inner
pub mod Answers
pub mod Resumes
