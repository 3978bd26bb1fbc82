pub mod Writer
pub mod Steps
