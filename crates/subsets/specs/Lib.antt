-- Systems whose keys are a row and a set of live rows: the subset construction.
pub mod Sets
