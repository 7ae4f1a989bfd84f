pub mod Pendings
