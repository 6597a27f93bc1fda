-- The laws that join the code to the definitions. Read in this order.
pub mod FixedWidth
pub mod FromFn
pub mod StageIndex
pub mod SumsPass
pub mod SumsAfter
pub mod ClosingGap
pub mod Positions
pub mod JobsLaid
pub mod ListChanges
pub mod QuestionParts
pub mod FirstQuestions
pub mod LoadQuestions
pub mod ActiveQuestions
pub mod EarliestMove
pub mod DrainLoop
