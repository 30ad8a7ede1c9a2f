mod Appended
mod Noted
mod Filling
mod Emptying
mod Asked
mod Turns
mod Places
