-- What is lent to the fixpoint: what each call of it asks for, and what each leaves.
use Rattle.std.specs.Prelude.{◌≡◌, Bool, None}
use Rattle.page_words.specs.Seat.{Heap}
use Rattle.ephemerons.specs.declared.tracer.Tracer.{Tracer}
use Rattle.ephemerons.specs.Fixpoint.{Stage, IsGround, Looks, Works, stage}
use Rattle.ephemerons.specs.LookedAt.{LooksOnward}

-- the stage that it is at
abbrev pub stage_of : {B : Type 0} → Tracer B → Stage
stage_of t = stage t.seat.now t.marking.now t.groups.now t.traced

-- the seat is that of the words, and what holds at each stage holds
pub record IsReady {B : Type 0} (words_of : B → Heap) (t : Tracer B) : Type 0 where
  pub heap : t.seat.now.heap ≡ words_of t.space.now
  pub ground : IsGround t.types.now (stage_of t)

-- it has what it had borrowed, and is ready again
pub record Keeps {B : Type 0} (words_of : B → Heap) (old new : Tracer B) : Type 0 where
  pub space : new.space ≡ old.space
  pub types : new.types ≡ old.types
  pub seat : new.seat.ghost_name ≡ old.seat.ghost_name
  pub marking : new.marking.ghost_name ≡ old.marking.ghost_name
  pub groups : new.groups.ghost_name ≡ old.groups.ghost_name
  pub ready : IsReady words_of new

-- work was done, if any
abbrev pub Advances : {B : Type 0} → Tracer B → Tracer B → Type 0
Advances old new = Works old.types.now None (stage_of old) (stage_of new)

-- work was found and done, or none was found
abbrev pub Searches : {B : Type 0} → Tracer B → Tracer B → Bool → Type 0
Searches old new found = Looks old.types.now None (stage_of old) (stage_of new) found

-- no headers were looked at but those of marked objects and of keys of their pairs
abbrev pub GoesOnward : {B : Type 0} → Tracer B → Tracer B → Type 0
GoesOnward old new = LooksOnward old.types.now (stage_of old) (stage_of new)
