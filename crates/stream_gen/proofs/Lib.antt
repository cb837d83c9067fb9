pub mod ChainParts
pub mod DrawnNumbers
pub mod EachFile
