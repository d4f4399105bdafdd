pub mod Stacks
pub mod Standing
