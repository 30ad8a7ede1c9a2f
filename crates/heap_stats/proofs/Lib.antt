mod Between
mod Ordinals
mod Turns
