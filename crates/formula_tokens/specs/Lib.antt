pub mod Words
pub mod Lexemes
pub mod Spelling
pub mod Tokens
pub mod Laws
