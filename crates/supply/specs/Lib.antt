-- The lowest undersupplied set, by coalition values.
pub mod Supply
