-- What has to be believed of a generated script, in reading order.
pub mod Generated
-- What guards it: the laws.
pub mod GeneratedLaw
