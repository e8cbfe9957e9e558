pub mod PairLemmas
pub mod StoreLemmas
