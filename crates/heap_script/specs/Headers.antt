-- The header of a script, and the version that it names.
use Rattle.std.specs.Prelude.{◌≡◌, ℕ, true, List, if◌then◌else◌, codes}
use Rattle.gc_graph.specs.Words.{is_text}
use Rattle.gc_graph.specs.Script.{is_header, version_of}
use Rattle.line_words.specs.Cursor.{first_line, IsLineEnd}
use Rattle.heap_script.specs.declared.lines.Header.{Header}

-- the version with this name, or 0
abbrev pub version_by_name : List ℕ → ℕ
version_by_name word = if is_text word (codes "1") then 1 else if is_text word (codes "2") then 2 else 0

-- the first line names this version, and ends there
pub record IsHeader (bytes : List ℕ) (header : Header) : Type 0 where
  pub is : is_header (first_line bytes) ≡ true
  pub version : version_of (first_line bytes) ≡ header.version
  pub end : IsLineEnd bytes 0 header.end
