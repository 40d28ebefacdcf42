-- What buyers demand at prices given as a list.
pub mod Demands
