pub mod Radial
