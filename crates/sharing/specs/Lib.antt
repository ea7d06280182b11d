pub mod EngineAnswers
