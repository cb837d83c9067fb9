mod OrderedRows
mod Admissions
mod Pairs
mod Numbers
mod Views
mod Tombstones
