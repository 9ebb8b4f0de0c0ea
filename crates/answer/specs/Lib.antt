pub mod StatedAnswers
pub mod AnswerLines
pub mod AnswerNumbers
