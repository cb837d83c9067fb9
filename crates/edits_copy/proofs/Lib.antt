mod Bodies
mod Groups
mod Copied
