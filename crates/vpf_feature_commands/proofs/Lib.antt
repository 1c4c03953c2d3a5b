pub mod SelectAnswers
mod PlainLemmas
