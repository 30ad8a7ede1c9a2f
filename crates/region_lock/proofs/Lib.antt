mod Counting
mod OtherViews
mod Rosters
mod Turns
mod Sharing
mod Passing
