pub mod Listing
pub mod Sent
pub mod Restored
pub mod SentLaws
pub mod HeldStores
pub mod StoredLaws
pub mod Promises
pub mod SendMeanings
