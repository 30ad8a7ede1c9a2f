-- The cases of a step, each with what was found on the way to it.
use Rattle.std.proofs.Common.{◌≡◌, ℕ, ◌<◌, Bool, true, false, List, Option, Some, None, refl, sym, subst, nat_lt, ltb-true}
use Rattle.std.specs.Option.{MatchOption}
use Rattle.std.specs.Bool.{MatchBool}
use Rattle.gc_graph.specs.declared.kind.Kind.{Kind}
use Rattle.gc_graph.specs.declared.line.Line.{Line}
use Rattle.gc_graph.specs.declared.line.Refusal.{Refusal}
use Rattle.gc_graph.specs.declared.line.Refusal.TheVariants as R
use Rattle.gc_graph.specs.State.{Setup, State, node_at}
use Rattle.gc_graph.specs.Fields.{field_count, kind_of_field}
use Rattle.gc_graph.specs.Outcomes.{answered, IsRefused, slot_at}
use Rattle.gc_graph.specs.ObjectSteps.{AtField}
use Rattle.gc_graph.proofs.Sound.{IsSound}

pub option_is : {T : Type 0} (o : Option T) (A : Type 0) (B : T → Type 0) (Q : Type 0) → (A → Q) → ((n : T) → o ≡ Some n → B n → Q) → MatchOption o A B → Q
option_is None A B Q a b m = a m
option_is (Some n) A B Q a b m = b n refl m

pub bool_is : (o : Bool) (A B Q : Type 0) → (o ≡ true → A → Q) → (o ≡ false → B → Q) → MatchBool o A B → Q
bool_is true A B Q a b m = a refl m
bool_is false A B Q a b m = b refl m

-- what was found of a field that a command is done on
pub record IsFound (allowed : Kind → Bool) (s : State) (p f n : ℕ) : Type 0 where
  pub slot : slot_at s p ≡ Some n
  pub there : f < field_count (node_at s.nodes n)
  pub allows : allowed (kind_of_field (node_at s.nodes n).object f) ≡ true

pub field_is : (allowed : Kind → Bool) (old new : State) (p f : ℕ) (lines : List Line) (Done : ℕ → Type 0) (Q : Type 0)
    → ((n : ℕ) → IsFound allowed old p f n → Done n → Q) → ((why : Refusal) → IsRefused why old lines new → Q) → AtField allowed old p f lines new Done → Q
field_is allowed old new p f lines Done Q done refused m =
    option_is (slot_at old p) _ _ Q (refused R.Null)
    (λ n slot. bool_is (nat_lt f (field_count (node_at old.nodes n))) _ _ Q
    (λ there. bool_is (allowed (kind_of_field (node_at old.nodes n).object f)) _ _ Q
    (λ allows. done n (record { slot = slot; there = ltb-true f (field_count (node_at old.nodes n)) there; allows = allows }))
    (λ no. refused R.Kind))
    (λ no. refused R.Field)) m

-- the new state is a sound one
pub landed : (setup : Setup) (new x : State) → new ≡ x → IsSound setup x → IsSound setup new
landed setup new x e h = subst (λ (s : State). IsSound setup s) (sym e) h

pub refused_sound : (setup : Setup) (old new : State) (lines : List Line) (why : Refusal) → IsSound setup old → IsRefused why old lines new → IsSound setup new
refused_sound setup old new lines why g h = landed setup new (answered old) h.1 g
