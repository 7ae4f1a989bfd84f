pub mod Revs
