pub mod Causes
pub mod MeetingAlone
pub mod MeetingStore
pub mod MeetingTexts
pub mod MeetingSquash
pub mod NothingDone
pub mod Saying
pub mod Still
