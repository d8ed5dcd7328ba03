-- What the functions compute, and that it is what the definitions say: messages that are told,
-- answers that fit, and what a message does.
pub mod Tellings
pub mod StepsAnswered
pub mod MessageMoves
pub mod MessageLeads
pub mod SplitAtCopy
pub mod AnsweredAtOnce
pub mod NextAnswer
pub mod Effects
pub mod OneStep
