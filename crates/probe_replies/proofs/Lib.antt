pub mod ReplyLemmas
pub mod ValueLemmas
pub mod StuffleLemmas
