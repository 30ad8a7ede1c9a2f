pub mod RegionRoots
