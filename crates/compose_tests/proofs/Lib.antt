mod Made
mod Silents
