mod Known
mod Opened
mod Begun
