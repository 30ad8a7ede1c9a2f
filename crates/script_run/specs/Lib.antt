-- What has to be believed, in reading order; but Callbacks and Statuses are of the program around `run`.
pub mod Callbacks
pub mod Setting
pub mod Printed
pub mod Headline
pub mod Statuses
-- What the crate's own code cites.
pub mod Counting
