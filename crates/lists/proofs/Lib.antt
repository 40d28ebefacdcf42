-- Laws of digits and words (Words), of the walk that lists them (Walks), of loops over a list of words (Loops), of
-- offers whose allocations are words (Packed), and of a buyer's bundle (Bundles).
pub mod Words
pub mod Walks
pub mod Loops
pub mod Packed
pub mod Bundles
