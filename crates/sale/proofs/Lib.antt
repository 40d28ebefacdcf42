-- Laws of the answers (Opening), and all that is claimed (Claimed).
pub mod Opening
pub mod Claimed
