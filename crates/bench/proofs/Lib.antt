pub mod PlayLaws
pub mod ChunkLaws
pub mod BlockLaws
pub mod TurnLaws
