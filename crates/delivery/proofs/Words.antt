-- Words of definitions and lemmas, by what they are of, so that a file names each of these modules once.
pub mod All
pub mod Steps
pub mod Changes
