pub mod Shown
pub mod Acting
pub mod Places
pub mod Prepared
pub mod Lending
pub mod LookedObjects
-- Words of the crates below that the crates above name too.
pub use Rattle.nodes_in_words.specs.AmongNodes
pub use Rattle.nodes_in_words.specs.ChangedBodies
pub use Rattle.nodes_in_words.specs.ClosedPlaces
pub use Rattle.nodes_in_words.specs.DeadUnnamed
pub use Rattle.nodes_in_words.specs.FieldKinds
pub use Rattle.nodes_in_words.specs.Judgement
pub use Rattle.nodes_in_words.specs.KeptNodes
pub use Rattle.nodes_in_words.specs.KeyNodes
pub use Rattle.nodes_in_words.specs.NodeBodies
pub use Rattle.nodes_in_words.specs.NodeChanges
pub use Rattle.nodes_in_words.specs.NodeLives
pub use Rattle.nodes_in_words.specs.NodePlaces
pub use Rattle.nodes_in_words.specs.Nodes
pub use Rattle.nodes_in_words.specs.Places as PlacesInWords
pub use Rattle.nodes_in_words.specs.ReferenceWords
pub use Rattle.nodes_in_words.specs.TypedNodes
pub use Rattle.nodes_in_words.specs.WeakNodes
pub use Rattle.nodes_in_words.specs.WholePairs
