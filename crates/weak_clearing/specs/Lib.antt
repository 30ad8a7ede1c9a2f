pub mod Clearing
pub mod Steps
pub mod Dying
-- Words of the crates below that the crates above name too.
pub use Rattle.page_space.specs.Space
