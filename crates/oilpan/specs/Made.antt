-- What comes of making an object.
use Rattle.std.specs.Prelude.{◌≡◌, ℕ, ◌+◌}
use Rattle.gc_graph.specs.State.{Setup, State}
use Rattle.gc_graph.specs.Outcomes.{answered}
use Rattle.gc_graph.specs.AccessLaw.{IsNew}
use Rattle.oilpan.specs.declared.errors.MakeError.{MakeError}
use Rattle.oilpan.specs.declared.errors.MakeError.TheVariants as M
use Rattle.oilpan.specs.declared.handles.Root.{Root}

-- the root names a new object of the type, at some place
pub record IsMade (setup : Setup) (old : State) (t e : ℕ) (new : State) (r : Root) : Type 0 where
  pub place : ℕ
  pub object : IsNew setup old r.slot t e r.node place new

-- no object was made: one more answer was `full`, or nothing has changed
abbrev pub IsMakeFault : State → State → MakeError → Type 0
IsMakeFault old new M.Full = new.full ≡ old.full + 1
IsMakeFault old new M.Memory = new ≡ answered old
IsMakeFault old new M.Handles = new ≡ old
