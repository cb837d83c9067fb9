mod Known
mod LeftBytes
mod Stopped
mod Times
