pub mod GatedGroups
mod GroupReads
mod GroupWrites
