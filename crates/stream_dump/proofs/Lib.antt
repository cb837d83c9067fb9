pub mod CommandLines
pub mod Dumps
pub mod Lengths
pub mod Octal
pub mod Standing
pub mod Unpacked
pub mod ValueLines
