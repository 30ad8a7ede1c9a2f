-- What has to be believed of the options, in reading order.
pub mod Settings
pub mod Options
-- Laws of these definitions.
pub mod Laws
-- What the crate's own code cites.
pub mod ClapRules
pub mod Heard
