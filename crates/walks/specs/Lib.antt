-- What the walks over a read pattern find.
pub mod Tables
pub mod Steps
pub mod Enter
pub mod Resume
pub mod Follow
pub mod Root
