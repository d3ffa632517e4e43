pub mod Theory
pub mod Simulation
pub mod Machine
pub mod LawLemmas
