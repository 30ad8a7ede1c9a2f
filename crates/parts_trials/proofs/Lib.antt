pub mod TwoShares
