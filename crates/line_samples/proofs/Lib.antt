pub mod TextLemmas
pub mod CountLemmas
pub mod LineLemmas
pub mod SampleLemmas
