-- What a pause makes of the nodes.
use Rattle.std.specs.Prelude.{Bool, List}
use Rattle.gc_graph.specs.State.{Node}
use Rattle.gc_graph.specs.Pause.{condemn, clear_fields}

-- the nodes after a pause that kept this set: the others are condemned, and the weak fields and pairs of the kept ones cleared
abbrev pub nodes_after : List Bool → List Node → List Node
nodes_after kept nodes = clear_fields (condemn kept nodes)
