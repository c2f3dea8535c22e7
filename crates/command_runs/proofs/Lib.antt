pub mod WrittenLemmas
pub mod ReadLemmas
pub mod OneGameLemmas
pub mod AnsweredLemmas
pub mod GameRunLemmas
pub mod ServedLemmas
