mod AnswerLemmas
mod GameLemmas
