mod Room
mod Places
mod Parts
mod StreamEnds
