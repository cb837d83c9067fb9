pub mod OwnStream
pub mod StreamDues
pub mod StreamLaws
