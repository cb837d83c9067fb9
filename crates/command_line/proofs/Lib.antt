mod Places
mod GuardWords
mod GuardsBeside
mod Splitting
mod NamesAmong
mod TurnsAmong
