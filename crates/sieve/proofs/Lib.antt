pub mod ObjectPut
pub mod ObjectJudged
