pub mod Marking
pub mod WeakCalling
pub mod Pausing
pub mod Left
-- Lemmas that the crates above cite too, since a crate's proofs/ can't be cited from another.
pub mod MembersOf
pub mod WeakHolders
-- Words of the crates below that the crates above name too.
pub use Rattle.ephemerons.specs.Accounted
pub use Rattle.ephemerons.specs.Fixpoint
pub use Rattle.ephemerons.specs.ListedMarks
pub use Rattle.ephemerons.specs.UnderWay
pub use Rattle.ephemerons.specs.UnderWayStays
pub use Rattle.prefinalizer_effects.specs.AmongNodes
pub use Rattle.prefinalizer_effects.specs.ClosedPlaces
pub use Rattle.prefinalizer_effects.specs.DeadUnnamed
pub use Rattle.prefinalizer_effects.specs.FieldKinds
pub use Rattle.prefinalizer_effects.specs.Judgement
pub use Rattle.prefinalizer_effects.specs.KeptNodes
pub use Rattle.prefinalizer_effects.specs.NodeBodies
pub use Rattle.prefinalizer_effects.specs.NodeChanges
pub use Rattle.prefinalizer_effects.specs.NodeLives
pub use Rattle.prefinalizer_effects.specs.NodePlaces
pub use Rattle.prefinalizer_effects.specs.Nodes
pub use Rattle.prefinalizer_effects.specs.PlacesInWords
pub use Rattle.prefinalizer_effects.specs.TypedNodes
pub use Rattle.prefinalizer_effects.specs.WeakNodes
pub use Rattle.prefinalizer_effects.specs.WholePairs
