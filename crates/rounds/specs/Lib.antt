-- What the code of a round and a sale answers.
pub mod Rounds
