-- The law of the grammar.
use Rattle.std.specs.Prelude.{◌≡◌, ◌≢◌, ◌⊎◌, ℕ, ◌<◌, ◌≤◌, true, false, List, [], length, All, codes, slice_index_or}
use Rattle.gc_graph.specs.Fields.{field_words}
use Rattle.gc_graph.specs.Lawful.{IsAllowed}
use Rattle.gc_graph.specs.Sections.{AreInSections}
use Rattle.gc_graph.specs.Words.{lines_of}
use Rattle.gc_graph.specs.Script.{names_version, Script, IsScript, IsFault}

-- the bytes are a script, or some line of them is faulty
abbrev pub IsScriptOrFault : ℕ → List ℕ → Type 0
IsScriptOrFault callbacks bytes =
    ((script : Script) × IsScript callbacks bytes script)
    ⊎ ((line : ℕ) × (reason : ℕ) × IsFault callbacks bytes line reason)

-- one of the two comes, never both; a script says one thing, and a fault is one line with one reason
pub record IsJudged (callbacks : ℕ) (bytes : List ℕ) : Type 0 where
  pub some : IsScriptOrFault callbacks bytes
  pub apart : (script : Script) (line reason : ℕ) → IsScript callbacks bytes script → IsFault callbacks bytes line reason → ⊥
  pub one_script : (s t : Script) → IsScript callbacks bytes s → IsScript callbacks bytes t → s ≡ t
  pub one_fault :
      (line reason other why : ℕ) → IsFault callbacks bytes line reason → IsFault callbacks bytes other why
      → (line ≡ other) × (reason ≡ why)

-- so it is for each text of bytes
abbrev pub TextsAreJudged : Type 0
TextsAreJudged = (callbacks : ℕ) (bytes : List ℕ) → IsJudged callbacks bytes

-- ---- what a script says is never too much for a heap

-- few types of few fields, whose few prefinalizers and weak callbacks are callbacks, and weak callbacks are shown all words of the
-- fields; few commands, whose numbers are in their ranges; orders and starts of threads stand where no join is awaited, joins where
-- one is, and none is awaited at the end
pub record IsInRanges (callbacks : ℕ) (script : Script) : Type 0 where
  pub sorts : length script.types ≤ 16383
  pub narrow : All (λ type. length type.kinds ≤ 64) script.types
  pub modest : All (λ type. length type.prefinalizers ≤ 16) script.types
  pub known : All (λ type. All (λ number. number < callbacks) type.prefinalizers) script.types
  pub weak_modest : All (λ type. length type.weak_callbacks ≤ 16) script.types
  pub weak_known : All (λ type. All (λ number. number < callbacks) type.weak_callbacks) script.types
  pub shown : All (λ type. type.weak_callbacks ≢ [] → field_words type.kinds ≤ 64) script.types
  pub allowed : All (IsAllowed (length script.types)) script.commands
  pub few : length script.commands ≤ 1000000
  pub sections : AreInSections false script.commands

-- so it is for each script
abbrev pub ScriptsAreInRanges : Type 0
ScriptsAreInRanges = (callbacks : ℕ) (bytes : List ℕ) (script : Script) → IsScript callbacks bytes script → IsInRanges callbacks script

-- ---- weak callbacks

-- a script whose first line names version 1 has none
abbrev pub WeakCallbacksAreOfVersionTwo : Type 0
WeakCallbacksAreOfVersionTwo =
    (callbacks : ℕ) (bytes : List ℕ) (script : Script) → IsScript callbacks bytes script
    → names_version (codes "1") (slice_index_or (lines_of bytes) 0 []) ≡ true → All (λ type. type.weak_callbacks ≡ []) script.types
