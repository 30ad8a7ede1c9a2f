-- The frames of plain commands, and the forms of answers that all families have.
use Rattle.std.proofs.Common.{◌≡◌, ℕ, ◌||◌, Bool, true, false, true≢false, List, [], ◌∷◌, Option, Some, None, refl, sym, ap, ◌∙◌, subst, inl, arith}
use Rattle.std.proofs.lemmas.List.{append-nil}
use Rattle.std.proofs.lemmas.List.Elements.{All-nil}
use Rattle.gc_graph.specs.declared.command.Command.{Command}
use Rattle.gc_graph.specs.declared.command.Command.TheVariants as C
use Rattle.gc_graph.specs.declared.kind.Kind.{Kind}
use Rattle.gc_graph.specs.declared.line.Line.{Line}
use Rattle.gc_graph.specs.declared.line.Line.TheVariants as L
use Rattle.gc_graph.specs.declared.line.Refusal.{Refusal}
use Rattle.gc_graph.specs.declared.region.Entry.{Entry}
use Rattle.gc_graph.specs.State.{State, StackWord, Node, node_at}
use Rattle.gc_graph.specs.Fields.{kind_of_field, is_reference, is_pair}
use Rattle.gc_graph.specs.Fields as P
use Rattle.gc_graph.specs.Outcomes.{answered, IsRefused, with_slot}
use Rattle.gc_graph.specs.ObjectSteps.{first_word, with_node}
use Rattle.gc_graph.specs.Commands.{WritesWeakSlot, WritesStack, WritesWord, told, Family, family_of, own_reads}
use Rattle.gc_graph.specs.LineKinds.{tells_that_nothing_was_done}
use Rattle.gc_graph.specs.Families.{StaysElse, TakesPiece, answers, TellsBefore, TellsAfter, StaysInFamily}
use Rattle.gc_graph.specs.Commands.Family.{Objects, Fields, Pairs, Slots, Stack, Cycle, Sweeps, Region, Threads}
use Rattle.gc_graph.specs.FamilyLines.{is_plain}
use Rattle.gc_graph.proofs.AccessLaws.{one_or_more}
use Rattle.gc_graph.proofs.Effects.{Effect, line_of_effect, with_effect, told_by, WritesField, ReadsNode, Fits, IsInKind, ComesOut}
use Rattle.gc_graph.proofs.Effects.Effect.{Refuses, Tells, Fills, Empties, Gets, Weakens, Stacks, Sets, Puts, Pairs as PairsUp}

-- ---- where nothing was done

nothing_else : (family : Family) (old : State) → StaysElse family old [] (answered old)
nothing_else Objects old = (refl, refl)
nothing_else Sweeps old = (refl, refl)
nothing_else Cycle old = ap (λ entries. record (answered old) { unprinted = entries }) (sym (append-nil old.unprinted))
nothing_else Region old = ap (λ entries. record (answered old) { unprinted = entries }) (sym (append-nil old.unprinted))
nothing_else family old = refl

nothing_taken : (family : Family) (old : State) → TakesPiece family old []
nothing_taken Cycle old = inl refl
nothing_taken Region old = inl refl
nothing_taken Threads old = All-nil _
nothing_taken family old = refl

nothing_before : (family : Family) → TellsBefore family []
nothing_before Objects = ([], refl)
nothing_before Cycle = ([], refl)
nothing_before Sweeps = ([], refl)
nothing_before Threads = All-nil _
nothing_before family = refl

pub nothing_after : (family : Family) → TellsAfter family []
nothing_after Cycle = ([], [], refl)
nothing_after family = refl

-- ---- forms of answers

module _ (family : Family) (old : State) (piece : List Entry) (lines : List Line) (new : State) where
  abbrev pub Stays : Type 0
  Stays = StaysInFamily family old piece lines new

  abbrev pub IsAnswer : Line → Type 0
  IsAnswer line = (tells_that_nothing_was_done line || answers family line) ≡ true

  pub one : (answer : Line) → IsAnswer answer → StaysElse family old piece new → TakesPiece family old piece → lines ≡ answer ∷ [] → Stays
  one answer fits rest takes is = record {
    rest = rest;
    takes = takes;
    told = record {
      before = [];
      answer = answer;
      after = [];
      lines_are = is;
      first = nothing_before family;
      fits = fits;
      then = nothing_after family;
    };
  }

  took_none : piece ≡ [] → TakesPiece family old piece
  took_none none = subst (TakesPiece family old) (sym none) (nothing_taken family old)

  -- one line, and nothing of the history
  pub quiet : (answer : Line) → IsAnswer answer → piece ≡ [] → StaysElse family old [] new → lines ≡ answer ∷ [] → Stays
  quiet answer fits none rest is = one answer fits (subst (λ es. StaysElse family old es new) (sym none) rest) (took_none none) is

  pub same : (answer : Line) → IsAnswer answer → piece ≡ [] → (lines ≡ answer ∷ []) × (new ≡ answered old) → Stays
  same answer fits none h = quiet answer fits none (subst (StaysElse family old []) (sym h.1) (nothing_else family old)) h.0

  pub refused : (why : Refusal) → piece ≡ [] → IsRefused why old lines new → Stays
  refused why none h = same (L.Refused why) refl none h

  pub memory : (piece ≡ []) × ((lines ≡ L.Memory ∷ []) × (new ≡ answered old)) → Stays
  memory h = same L.Memory refl h.0 h.1

-- ---- plain commands

slot_else : (family : Family) (old : State) (q : ℕ) (content : Option ℕ) → is_plain family ≡ true → StaysElse family old [] (answered (with_slot old q content))
slot_else Fields old q content plain = refl
slot_else Pairs old q content plain = refl
slot_else Slots old q content plain = refl
slot_else Stack old q content plain = refl
slot_else family old q content plain = absurd (true≢false (sym plain))

-- a weak read lets more be kept
weakly_else : (family : Family) (old : State) (q n : ℕ) → is_plain family ≡ true → (family ≡ Stack → ⊥) → StaysElse family old [] (answered (with_effect old (Gets true q n)))
weakly_else Fields old q n plain other = refl
weakly_else Pairs old q n plain other = refl
weakly_else Slots old q n plain other = refl
weakly_else Stack old q n plain other = absurd (other refl)
weakly_else family old q n plain other = absurd (true≢false (sym plain))

-- no command on the stack reads weakly
reads_none : (old : State) (command : Command) (lines : List Line) → family_of command ≡ Stack → own_reads old command lines ≡ []
reads_none old (C.Get p f q) lines e = cc
reads_none old (C.Key p f q) lines e = cc
reads_none old (C.Val p f q) lines e = cc
reads_none old (C.Read w p) lines e = cc
reads_none old command lines e = refl

read_else : (old : State) (command : Command) (lines : List Line) (q n : ℕ) → is_plain (family_of command) ≡ true → ReadsNode true old command lines q n
    → lines ≡ L.Node n ∷ [] → StaysElse (family_of command) old [] (answered (with_effect old (Gets true q n)))
read_else old command lines q n plain fits is =
    weakly_else (family_of command) old q n plain
    (λ e. (let none : [] ≡ n ∷ [] = sym (reads_none old command lines e) ∙ fits.reads refl ∙ ap told is in absurd cc))

weak_else : (old : State) (command : Command) (w : ℕ) (content : Option ℕ) → is_plain (family_of command) ≡ true → WritesWeakSlot command w
    → StaysElse (family_of command) old [] (answered (with_effect old (Weakens w content)))
weak_else old (C.Weak w p) z content plain writes = refl
weak_else old (C.GcFinish want) z content plain writes = absurd (true≢false (sym plain))
weak_else old (C.GcNow want) z content plain writes = absurd (true≢false (sym plain))
weak_else old command z content plain writes = absurd writes

stack_else : (old : State) (command : Command) (stack : List StackWord) → WritesStack command → StaysElse (family_of command) old [] (answered (with_effect old (Stacks stack)))
stack_else old (C.Push p o) stack writes = refl
stack_else old (C.PushPlain w) stack writes = refl
stack_else old C.Pop stack writes = refl
stack_else old command stack writes = absurd writes

node_else : (old : State) (command : Command) (n word : ℕ) (node : Node) → is_plain (family_of command) ≡ true → WritesWord old command n word
    → StaysElse (family_of command) old [] (answered (with_node old n node))
node_else old (C.Set p f q) n word node plain writes = refl
node_else old (C.SetNull p f) n word node plain writes = refl
node_else old (C.Pair p f k v) n word node plain writes = refl
node_else old (C.PairNull p f) n word node plain writes = refl
node_else old (C.Put p f w) n word node plain writes = refl
node_else old (C.GcFinish want) n word node plain writes = absurd (true≢false (sym plain))
node_else old (C.GcNow want) n word node plain writes = absurd (true≢false (sym plain))
node_else old command n word node plain writes = absurd writes

field_else : (allowed : Kind → Bool) (old : State) (command : Command) (n f : ℕ) (node : Node) → is_plain (family_of command) ≡ true
    → WritesField allowed old command n f → StaysElse (family_of command) old [] (answered (with_node old n node))
field_else allowed old command n f node plain writes =
    let some = one_or_more (kind_of_field (node_at old.nodes n).object f) in
    node_else old command n (first_word old n f) node plain (writes.words (first_word old n f) (omega arith, omega (arith, some)))

effect_else : (old : State) (command : Command) (lines : List Line) (effect : Effect) → is_plain (family_of command) ≡ true → Fits old command lines effect
    → lines ≡ line_of_effect effect ∷ [] → StaysElse (family_of command) old [] (answered (with_effect old effect))
effect_else old command lines (Refuses why) plain fits is = nothing_else (family_of command) old
effect_else old command lines (Tells w) plain fits is = nothing_else (family_of command) old
effect_else old command lines (Fills q content) plain fits is = slot_else (family_of command) old q content plain
effect_else old command lines (Empties q) plain fits is = slot_else (family_of command) old q None plain
effect_else old command lines (Gets true q n) plain fits is = read_else old command lines q n plain fits is
effect_else old command lines (Gets false q n) plain fits is = slot_else (family_of command) old q (Some n) plain
effect_else old command lines (Weakens w content) plain fits is = weak_else old command w content plain fits.0
effect_else old command lines (Stacks stack) plain fits is = stack_else old command stack fits.0
effect_else old command lines (Sets n f content) plain fits is = field_else is_reference old command n f _ plain fits.0
effect_else old command lines (Puts n f w) plain fits is = field_else P.is_plain old command n f _ plain fits.0
effect_else old command lines (PairsUp n f key value) plain fits is = field_else is_pair old command n f _ plain fits.0

-- `ok`, null and a node answer each plain family; a word answers `word` alone
plain_answers : (family : Family) → is_plain family ≡ true → (answers family L.Fine ≡ true) × (answers family L.Null ≡ true) × ((n : ℕ) → answers family (L.Node n) ≡ true)
plain_answers Fields plain = (refl, refl, λ n. refl)
plain_answers Pairs plain = (refl, refl, λ n. refl)
plain_answers Slots plain = (refl, refl, λ n. refl)
plain_answers Stack plain = (refl, refl, λ n. refl)
plain_answers family plain = absurd (true≢false (sym plain))

word_answers : (command : Command) (w : ℕ) → IsInKind command (L.Word w) → answers (family_of command) (L.Word w) ≡ true
word_answers (C.Word p f) w kind = refl
word_answers command w kind = absurd (true≢false (sym kind))

pub plain_stays : (old new : State) (command : Command) (piece : List Entry) (lines : List Line) → is_plain (family_of command) ≡ true → ComesOut old command piece lines new
    → StaysInFamily (family_of command) old piece lines new
plain_stays old new command piece lines plain c =
    let family : Family = family_of command in
    let told = plain_answers family plain in
    quiet family old piece lines new (line_of_effect c.effect)
    (told_by (λ line. IsInKind command line → (tells_that_nothing_was_done line || answers family line) ≡ true) (λ why kind. refl) (λ kind. told.0) (λ kind. told.1)
    (λ n kind. told.2 n) (λ w kind. word_answers command w kind) c.effect c.kind)
    c.none (subst (StaysElse family old []) (sym c.after) (effect_else old command lines c.effect plain c.fits c.lines_are)) c.lines_are
