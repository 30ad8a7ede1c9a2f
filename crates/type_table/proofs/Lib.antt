pub mod Offsets
pub mod WordKinds
pub mod Unknown
pub mod FieldsApart
