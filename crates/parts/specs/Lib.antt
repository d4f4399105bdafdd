-- What the step of the work at each kind of part must give.
pub mod Leaves
pub mod Steps
pub mod Told
pub mod Rooms
pub mod Combining
pub mod Wrong
