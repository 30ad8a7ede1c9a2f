-- What has to be believed for the headline, in reading order.
pub mod Causes
pub mod Devices
-- What the devices in memory do.
pub mod ListDevices
