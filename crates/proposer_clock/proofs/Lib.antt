pub mod Least
