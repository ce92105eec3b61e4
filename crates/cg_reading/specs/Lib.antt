-- what public contracts cite
pub mod Bytes
pub mod Pieces
pub mod Tokens
pub mod Readers
pub mod TokenReaders
pub mod Column
pub mod Gives
pub mod Turns
pub mod Words
