-- What follows of a command's family: that it takes nothing of the history, and that it tells one line.
use Rattle.std.proofs.Common.{◌≡◌, Bool, true, false, true≢false, List, [], ◌∷◌, ◌++◌, sym, ap, ◌∙◌}
use Rattle.gc_graph.specs.declared.command.Command.{Command}
use Rattle.gc_graph.specs.declared.line.Line.{Line}
use Rattle.gc_graph.specs.declared.region.Entry.{Entry}
use Rattle.gc_graph.specs.State.{Setup, State}
use Rattle.gc_graph.specs.Step.{Step}
use Rattle.gc_graph.specs.Families.{TakesPiece, IsAnsweredOnce, StepsStayInTheirFamily}
use Rattle.gc_graph.specs.Commands.{Family, family_of}
use Rattle.gc_graph.specs.Commands.Family.{Objects, Fields, Pairs, Slots, Stack, Cycle, Sweeps, Region, Threads}

-- commands on fields, pairs, slots and the stack
abbrev pub is_plain : Family → Bool
is_plain Fields = true
is_plain Pairs = true
is_plain Slots = true
is_plain Stack = true
is_plain family = false

-- the families that take nothing of the region's history
abbrev pub takes_none : Family → Bool
takes_none Cycle = false
takes_none Region = false
takes_none Threads = false
takes_none family = true

-- the families whose commands tell one line
abbrev pub tells_one : Family → Bool
tells_one Region = true
tells_one family = is_plain family

none_taken : (family : Family) (old : State) (piece : List Entry) → takes_none family ≡ true → TakesPiece family old piece → piece ≡ []
none_taken Objects old piece is h = h
none_taken Fields old piece is h = h
none_taken Pairs old piece is h = h
none_taken Slots old piece is h = h
none_taken Stack old piece is h = h
none_taken Sweeps old piece is h = h
none_taken family old piece is h = absurd (true≢false (sym is))

-- a command of such a family takes nothing
pub takes_nothing : StepsStayInTheirFamily → (setup : Setup) (old : State) (command : Command) (piece : List Entry) (lines : List Line) (new : State)
    → takes_none (family_of command) ≡ true → Step setup old command piece lines new → piece ≡ []
takes_nothing law setup old command piece lines new is h = none_taken (family_of command) old piece is (law setup old command piece lines new h).takes

alone : (lines before after : List Line) (answer : Line) → lines ≡ before ++ answer ∷ after → before ≡ [] → after ≡ [] → lines ≡ answer ∷ []
alone lines before after answer are first then = are ∙ ap (λ told. told ++ answer ∷ after) first ∙ ap (λ told. answer ∷ told) then

-- where a family tells one line, its answer is all of them
pub all_told : (family : Family) (lines : List Line) → tells_one family ≡ true → (h : IsAnsweredOnce family lines) → lines ≡ h.answer ∷ []
all_told Fields lines is h = alone lines h.before h.after h.answer h.lines_are h.first h.then
all_told Pairs lines is h = alone lines h.before h.after h.answer h.lines_are h.first h.then
all_told Slots lines is h = alone lines h.before h.after h.answer h.lines_are h.first h.then
all_told Stack lines is h = alone lines h.before h.after h.answer h.lines_are h.first h.then
all_told Region lines is h = alone lines h.before h.after h.answer h.lines_are h.first h.then
all_told family lines is h = absurd (true≢false (sym is))

-- a command of such a family tells one line
pub tells_one_line : StepsStayInTheirFamily → (setup : Setup) (old : State) (command : Command) (piece : List Entry) (lines : List Line) (new : State)
    → tells_one (family_of command) ≡ true → Step setup old command piece lines new → (line : Line) × (lines ≡ line ∷ [])
tells_one_line law setup old command piece lines new is h =
    let told = (law setup old command piece lines new h).told in (told.answer, all_told (family_of command) lines is told)
