-- What the matches of `clap` hold of each option, and what that asks for.
use Rattle.std.specs.Prelude.{◌≡◌, ◌≤◌, ℕ, Bool, true, List, Option, Some, None, IfSome, option_map, option_and_then, codes, if◌then◌else◌}
use Rattle.clap.specs.Matches.{first_value, one_text}
use Rattle.clap.specs.declared.parser.matches.Found.{Found}
use Rattle.command_line.specs.declared.asked.Asked.{Asked}
use Rattle.command_line.specs.declared.options.Options.{Options}
use Rattle.command_line.specs.Settings.{number_of_word, number_within, is_page_size, page_size_of, most_markers}
use Rattle.command_line.specs.Options.{options_from}

-- the text of each option that has a value, and whether `--summary` was named
pub record Heard : Type 0 where
  pub pages : Option (List ℕ)
  pub page_words : Option (List ℕ)
  pub markers : Option (List ℕ)
  pub summary : Bool
  pub seed : Option (List ℕ)
  pub count : Option (List ℕ)

-- the matches hold these texts
pub record Holds (found : Found) (heard : Heard) : Type 0 where
  pub pages : first_value found (codes "pages") ≡ heard.pages
  pub page_words : first_value found (codes "page-words") ≡ heard.page_words
  pub markers : first_value found (codes "markers") ≡ heard.markers
  pub summary : one_text found (codes "summary") ≡ Some (if heard.summary then codes "true" else codes "false")
  pub seed : first_value found (codes "generate") ≡ heard.seed
  pub count : first_value found (codes "count") ≡ heard.count

-- what an option's text is read as, where it has one: none where it can't be read
abbrev pub read_if_given : {X : Type 0} → (List ℕ → Option X) → Option (List ℕ) → Option (Option X)
read_if_given read None = Some None
read_if_given read (Some text) = option_map (λ x. Some x) (read text)

-- what is asked of each option, where each text could be read
abbrev pub all_read : Bool → Option (Option ℕ) → Option (Option ℕ) → Option (Option ℕ) → Option (Option ℕ)
    → Option (Option ℕ) → Option Asked
all_read summary (Some pages) (Some page_words) (Some markers) (Some seed) (Some count) = Some (record {
  pages = pages;
  page_words = page_words;
  markers = markers;
  summary = summary;
  seed = seed;
  count = count;
})
all_read summary _ _ _ _ _ = None

-- what the texts ask of each option
abbrev pub asked_by : Heard → Option Asked
asked_by heard = all_read heard.summary (read_if_given (number_within 1 1024) heard.pages)
    (read_if_given page_size_of heard.page_words) (read_if_given (number_within 0 most_markers) heard.markers)
    (read_if_given number_of_word heard.seed) (read_if_given (number_within 1 50000) heard.count)

-- the options that the texts ask for
abbrev pub options_heard : Heard → Option Options
options_heard heard = option_and_then options_from (asked_by heard)

-- each number that was asked for is one that its option may have
pub record IsAskedInRange (asked : Asked) : Type 0 where
  pub pages : IfSome asked.pages (λ n. (1 ≤ n) × (n ≤ 1024))
  pub page_words : IfSome asked.page_words (λ n. is_page_size n ≡ true)
  pub markers : IfSome asked.markers (λ n. n ≤ most_markers)
  pub count : IfSome asked.count (λ n. (1 ≤ n) × (n ≤ 50000))
