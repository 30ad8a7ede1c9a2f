-- What a call leaves of the handles that a program has.
use Rattle.std.proofs.Common.{◌≡◌, ◌≢◌, ◌<◌, ℕ, Bool, true, false, List, length, Option, Some, None, refl, sym, ap, ◌∙◌, subst, get_or, set as slice_set, arith}
use Rattle.std.proofs.lemmas.List.{get_or-set_same, get_or-set_other}
use Rattle.std.proofs.Math.Logic.{∥∥₁_elim}
use Rattle.std.proofs.Props.{props}
use Rattle.gc_graph.specs.declared.command.Command.{Command}
use Rattle.gc_graph.specs.declared.command.Command.TheVariants as C
use Rattle.gc_graph.specs.declared.line.Line.{Line}
use Rattle.gc_graph.specs.declared.region.Entry.{Entry}
use Rattle.gc_graph.specs.State.{Setup, State}
use Rattle.gc_graph.specs.Outcomes.{slot_at}
use Rattle.gc_graph.specs.Commands.{WritesSlot}
use Rattle.gc_graph.specs.Valid.{IsValid}
use Rattle.gc_graph.specs.HandleLaw.{TellsLife}
use Rattle.oilpan.specs.declared.handles.Root.{Root}
use Rattle.oilpan.specs.declared.handles.WeakRoot.{WeakRoot}
use Rattle.oilpan.specs.Asked.{IsAsked}
use Rattle.oilpan.specs.Handles.{Holds, Watches}

-- ---- roots

apart : (s : State) (q : ℕ) (o : Root) → slot_at s q ≡ None → Holds s o → o.slot ≢ q
apart s q o null holds same = let here : slot_at s q ≡ Some o.node = subst (λ z. slot_at s z ≡ Some o.node) same holds in cc

module _ (setup : Setup) (old new : State) (command : Command) (piece : List Entry) (lines : List Line) (line : Line)
    (asked : IsAsked setup old new command piece lines line) where
  -- no slot was written
  pub stay : ((z : ℕ) → WritesSlot command z → ⊥) → (o : Root) → Holds old o → Holds new o
  stay none o holds = asked.left.slots o.slot (none o.slot) ∙ holds

  -- slot q was written
  pub stay_but : (q : ℕ) → ((z : ℕ) → WritesSlot command z → z ≡ q) → (o : Root) → Holds old o → (o.slot ≡ q → ⊥) → Holds new o
  stay_but q one o holds other = asked.left.slots o.slot (λ writes. other (one o.slot writes)) ∙ holds

  -- slot q was written, which was null
  pub stay_beside : (q : ℕ) → ((z : ℕ) → WritesSlot command z → z ≡ q) → slot_at old q ≡ None → (o : Root) → Holds old o → Holds new o
  stay_beside q one null o holds = stay_but q one o holds (apart old q o null holds)

  -- ---- weak roots

  pub told : ∥ IsValid setup old ∥₁ → (w n : ℕ) → ((p : ℕ) → command ≢ C.Weak w p) → TellsLife old w n → TellsLife new w n
  told valid w n other tells = record {
    made = ∥∥₁_elim valid (search props) (λ v. (asked.tells v w n other tells).made);
    names = ∥∥₁_elim valid (search props) (λ v. (asked.tells v w n other tells).names);
  }

  pub watch : ∥ IsValid setup old ∥₁ → (flags : List Bool) → ((w p : ℕ) → command ≢ C.Weak w p) → (o : WeakRoot) → Watches old flags o → Watches new flags o
  watch valid flags other o watches = record { given = watches.given; tells = told valid o.slot o.node (other o.slot) watches.tells }

-- a root that holds has another slot than a free one
pub fresh : (s : State) (q : ℕ) → slot_at s q ≡ None → (o : Root) → Holds s o → (o.slot ≡ q → ⊥)
fresh s q null o holds same = apart s q o null holds same
