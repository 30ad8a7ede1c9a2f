-- Two settings.
use Rattle.std.proofs.Common.{◌≡◌, Bool, false, ◌||◌, is_some, arith}
use Rattle.command_line.specs.declared.asked.Asked.{Asked}
use Rattle.command_line.specs.Settings.{Setting}
use Rattle.command_line.specs.Settings.Setting.{Pages, PageWords, Markers, Summary, Seed, Count}
use Rattle.command_line.specs.Options.{same_option, with_setting}

-- the option of this setting was asked for
abbrev pub is_asked : Asked → Setting → Bool
is_asked asked (Pages n) = is_some asked.pages
is_asked asked (PageWords n) = is_some asked.page_words
is_asked asked (Markers n) = is_some asked.markers
is_asked asked Summary = asked.summary
is_asked asked (Seed n) = is_some asked.seed
is_asked asked (Count n) = is_some asked.count

pub asked_after : (a : Asked) (f s : Setting) → is_asked (with_setting a f) s ≡ (same_option f s || is_asked a s)
asked_after a f s = grind arith

pub same_option-sym : (f s : Setting) → same_option f s ≡ same_option s f
same_option-sym f s = grind arith

pub settings_commute : (a : Asked) (f s : Setting) → same_option f s ≡ false → with_setting (with_setting a f) s ≡ with_setting (with_setting a s) f
settings_commute a f s e = grind arith
