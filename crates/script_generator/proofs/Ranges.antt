-- The numbers of the commands of a generated script are in their ranges, and they are few.
use Rattle.std.proofs.Common.{◌≡◌, ◌≢◌, ℕ, zero, suc, ◌+◌, ◌*◌, ◌%◌, ◌<◌, ◌≤◌, ◌==◌, false, true≢false, List, [], ◌∷◌, ◌++◌, length, All, refl, sym, subst, arith, length-append}
use Rattle.std.specs.List.{flat_map, range_with_len}
use Rattle.std.proofs.lemmas.Bool.{cond_both}
use Rattle.std.proofs.lemmas.List.Elements.{All-nil, All-cons, All-append, All-head, All-tail, All-weaker}
use Rattle.gc_graph.specs.declared.command.Command.{Command}
use Rattle.gc_graph.specs.declared.command.Command.TheVariants as C
use Rattle.gc_graph.specs.declared.command.Want.TheVariants.{Precise}
use Rattle.gc_graph.specs.State.{ObjectType}
use Rattle.gc_graph.specs.Fields.{field_words}
use Rattle.gc_graph.specs.Lawful.{IsAllowed}
use Rattle.gc_graph.specs.Sections.{awaiting_after, IsInSection, AreInSections}
use Rattle.gc_graph.specs.ThreadLaw.{is_of_threads}
use Rattle.script_generator.specs.Generated.{number_after, element, table_entry, generated_types, first_commands, child_commands, entry_commands, chosen_commands, has_cycle, starting_commands, ending_commands, turn_commands, turns, collection_commands, generated}
use Rattle.script_generator.specs.GeneratedLaw.{GeneratedIsInRanges}

-- ---- what holds of each command

-- in its ranges, where there are two types, and none on threads
record IsFit (command : Command) : Type 0 where
  allowed : IsAllowed 2 command
  apart : is_of_threads command ≡ false

record AreFit (commands : List Command) : Type 0 where
  all : All IsFit commands

none : AreFit []
none = record { all = All-nil IsFit }

also : (command : Command) {commands : List Command} → IsAllowed 2 command → is_of_threads command ≡ false → AreFit commands → AreFit (command ∷ commands)
also command {commands} allowed apart h = record { all = All-cons IsFit command commands (record { allowed = allowed; apart = apart }) h.all }

both : (before after : List Command) → AreFit before → AreFit after → AreFit (before ++ after)
both before after h k = record { all = All-append IsFit before after h.all k.all }

first_fit : AreFit first_commands
first_fit =
    also (C.New 0 0 0) (omega arith, omega arith, omega arith) refl
    (also (C.Copy 0 2) (omega arith, omega arith) refl none)

child_fit : (p i : ℕ) → p < 256 → i ≤ 50000 → AreFit (child_commands p i)
child_fit p i slot low =
    also (C.New 1 0 0) (omega arith, omega arith, omega arith) refl
    (also (C.Put 1 3 i) (omega arith, omega arith, omega arith) refl
    (also (C.Set 1 2 0) (omega arith, omega arith, omega arith) refl
    (also (C.Get p 0 3) (omega arith, omega arith, omega arith) refl
    (also (C.Set 1 1 3) (omega arith, omega arith, omega arith) refl
    (also (C.Set p 0 1) (omega arith, omega arith, omega arith) refl
    (also (C.Copy 1 2) (omega arith, omega arith) refl
    (also (C.Drop 1) (omega arith) refl
    (also (C.Drop 3) (omega arith) refl none))))))))

entry_fit : (i : ℕ) → AreFit (entry_commands i)
entry_fit i =
    also (C.New 1 0 0) (omega arith, omega arith, omega arith) refl
    (also (C.New 4 1 0) (omega arith, omega arith, omega arith) refl
    (also (C.Set 4 0 5) (omega arith, omega arith, omega arith) refl
    (also (C.Copy 4 5) (omega arith, omega arith) refl
    (also (C.New 6 0 0) (omega arith, omega arith, omega arith) refl
    (also (C.Set 6 0 1) (omega arith, omega arith, omega arith) refl
    (also (C.Pair 4 1 1 6) (omega arith, omega arith, omega arith, omega arith) refl
    (also (C.Weak (i % 64) 1) (omega arith, omega arith) refl
    (also (C.Drop 1) (omega arith) refl
    (also (C.Drop 4) (omega arith) refl
    (also (C.Drop 6) (omega arith) refl none))))))))))

collection_fit : AreFit collection_commands
collection_fit = also (C.GcNow Precise) tt refl (also C.SweepAll tt refl none)

starting_fit : (i : ℕ) → AreFit (starting_commands i)
starting_fit i = cond_both (has_cycle i) _ _ AreFit (λ e. also C.GcStart tt refl (also (C.GcStep 2) (omega arith, omega arith) refl none)) (λ e. none)

ending_fit : (i : ℕ) → AreFit (ending_commands i)
ending_fit i = cond_both (has_cycle i) _ _ AreFit (λ e. also (C.GcFinish Precise) tt refl collection_fit) (λ e. none)

chosen_fit : (i x : ℕ) → i ≤ 50000 → AreFit (chosen_commands i x)
chosen_fit i x low =
    cond_both (x % 3 == 0) _ _ AreFit (λ e. child_fit 0 i (omega arith) low)
    (λ e. cond_both (x % 3 == 1) _ _ AreFit (λ f. child_fit 2 i (omega arith) low) (λ f. entry_fit i))

turn_fit : (i x : ℕ) → i ≤ 50000 → AreFit (turn_commands i x)
turn_fit i x low =
    both (starting_commands i ++ chosen_commands i x) (ending_commands i)
    (both (starting_commands i) (chosen_commands i x) (starting_fit i) (chosen_fit i x low)) (ending_fit i)

-- the turns from the one of this number, of which there are so many
abbrev turns_from : ℕ → ℕ → ℕ → List Command
turns_from seed i n = flat_map (λ i. turn_commands i (number_after seed i)) (range_with_len i n)

turns_fit : (seed i n : ℕ) → i + n ≤ 50001 → AreFit (turns_from seed i n)
turns_fit seed i zero low = none
turns_fit seed i (suc n) low =
    both (turn_commands i (number_after seed i)) (turns_from seed (i + 1) n) (turn_fit i (number_after seed i) (omega arith))
    (turns_fit seed (i + 1) n (omega arith))

commands_fit : (seed count : ℕ) → count ≤ 50000 → AreFit (generated seed count).commands
commands_fit seed count low =
    both (first_commands ++ turns seed count) collection_commands
    (both first_commands (turns seed count) first_fit (turns_fit seed 1 count (omega arith))) collection_fit

-- ---- how many they are

starting_few : (i : ℕ) → length (starting_commands i) ≤ 2
starting_few i = cond_both (has_cycle i) _ _ (λ (cs : List Command). length cs ≤ 2) (λ e. omega arith) (λ e. omega arith)

ending_few : (i : ℕ) → length (ending_commands i) ≤ 3
ending_few i = cond_both (has_cycle i) _ _ (λ (cs : List Command). length cs ≤ 3) (λ e. omega arith) (λ e. omega arith)

chosen_few : (i x : ℕ) → length (chosen_commands i x) ≤ 11
chosen_few i x =
    cond_both (x % 3 == 0) _ _ (λ (cs : List Command). length cs ≤ 11) (λ e. omega arith)
    (λ e. cond_both (x % 3 == 1) _ _ (λ (cs : List Command). length cs ≤ 11) (λ f. omega arith) (λ f. omega arith))

turn_few : (i x : ℕ) → length (turn_commands i x) ≤ 16
turn_few i x =
    let starting = starting_few i in
    let chosen = chosen_few i x in
    let ending = ending_few i in
    let front = length-append (starting_commands i) (chosen_commands i x) in
    let whole : length (turn_commands i x) ≡ length (starting_commands i ++ chosen_commands i x) + length (ending_commands i) =
    length-append (starting_commands i ++ chosen_commands i x) (ending_commands i) in
    omega (arith, starting, chosen, ending, front, whole)

turns_few : (seed i n : ℕ) → length (turns_from seed i n) ≤ 16 * n
turns_few seed i zero = omega arith
turns_few seed i (suc n) =
    let turn = turn_few i (number_after seed i) in
    let rest = turns_few seed (i + 1) n in
    let whole : length (turns_from seed i (suc n)) ≡ length (turn_commands i (number_after seed i)) + length (turns_from seed (i + 1) n) =
    length-append (turn_commands i (number_after seed i)) (turns_from seed (i + 1) n) in
    omega (arith, turn, rest, whole)

commands_few : (seed count : ℕ) → count ≤ 50000 → length (generated seed count).commands ≤ 1000000
commands_few seed count low =
    let turned : length (turns seed count) ≤ 16 * count = turns_few seed 1 count in
    let front : length (first_commands ++ turns seed count) ≡ 2 + length (turns seed count) = length-append first_commands (turns seed count) in
    let whole : length (generated seed count).commands ≡ length (first_commands ++ turns seed count) + 2 =
    length-append (first_commands ++ turns seed count) collection_commands in
    omega (arith, turned, front, whole)

-- ---- sections

in_section : (command : Command) → is_of_threads command ≡ false → IsInSection false command × (awaiting_after false command ≡ false)
in_section (C.At j order) e = absurd (true≢false e)
in_section C.ThreadsGo e = absurd (true≢false e)
in_section C.ThreadsJoin e = absurd (true≢false e)
in_section other e = (tt, refl)

in_sections : (commands : List Command) → All IsFit commands → AreInSections false commands
in_sections [] h = refl
in_sections (command ∷ commands) h =
    let one = in_section command (All-head IsFit command commands h).apart in
    (one.0, subst (λ awaiting. AreInSections awaiting commands) (sym one.1) (in_sections commands (All-tail IsFit command commands h)))

-- ---- in all

-- what holds of both types
of_types : (P : ObjectType → Type 0) → P element → P table_entry → All P generated_types
of_types P h k = All-cons P element (table_entry ∷ []) h (All-cons P table_entry [] k (All-nil P))

pub generated_is_in_ranges : GeneratedIsInRanges
generated_is_in_ranges callbacks seed count low = record {
  sorts = omega arith;
  narrow = of_types (λ type. length type.kinds ≤ 64) (omega arith) (omega arith);
  modest = of_types (λ type. length type.prefinalizers ≤ 16) (omega arith) (omega arith);
  known =
      of_types (λ type. All (λ number. number < callbacks) type.prefinalizers) (All-nil (λ number. number < callbacks))
      (All-nil (λ number. number < callbacks));
  weak_modest = of_types (λ type. length type.weak_callbacks ≤ 16) (omega arith) (omega arith);
  weak_known =
      of_types (λ type. All (λ number. number < callbacks) type.weak_callbacks) (All-nil (λ number. number < callbacks))
      (All-nil (λ number. number < callbacks));
  shown =
      of_types (λ type. type.weak_callbacks ≢ [] → field_words type.kinds ≤ 64) (λ some. absurd (some refl)) (λ some. absurd (some refl));
  allowed = All-weaker IsFit (IsAllowed 2) (λ c f. f.allowed) (generated seed count).commands (commands_fit seed count low).all;
  few = commands_few seed count low;
  sections = in_sections (generated seed count).commands (commands_fit seed count low).all;
}
