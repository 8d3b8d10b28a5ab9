pub mod Walk
pub mod Chunk
