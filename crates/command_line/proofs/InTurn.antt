-- Settings that are taken one after the other.
use Rattle.std.proofs.Common.{◌≡◌, Bool, true, false, not, ◌&&◌, ◌||◌, List, [], ◌∷◌, ◌++◌, Option, Some, None, cond, refl, sym, ap, ap₂, ◌∙◌}
use Rattle.std.specs.Prelude.{option_and_then}
use Rattle.std.specs.List.{list_any, list_all, fold}
use Rattle.command_line.specs.declared.asked.Asked.{Asked}
use Rattle.command_line.specs.Settings.{Setting}
use Rattle.command_line.specs.Settings.Setting.{Pages, PageWords, Markers, Summary, Seed, Count}
use Rattle.command_line.specs.Options.{same_option, each_once, nothing_asked, with_setting, options_from, options_set}
use Rattle.command_line.proofs.Pairs.{is_asked, asked_after, same_option-sym, settings_commute}

-- settings one after the other, each of an option that nothing was asked of
abbrev pub in_turn : Asked → List Setting → Option Asked
in_turn asked [] = Some asked
in_turn asked (setting ∷ more) = cond (is_asked asked setting) None (in_turn (with_setting asked setting) more)

-- none of the settings is of an option that was asked for
abbrev is_free : Asked → List Setting → Bool
is_free asked settings = list_all (λ s. not (is_asked asked s)) settings

-- ---- settings in turn are all of them at once, where no option stands twice

regrouped : (x y u v : Bool) → (not (x || y) && (not u && v)) ≡ (not (x || u) && (not y && v))
regrouped true y u v = refl
regrouped false true true v = refl
regrouped false true false v = refl
regrouped false false u v = refl

free_after : (a : Asked) (s : Setting) (more : List Setting)
    → is_free (with_setting a s) more ≡ (not (list_any (same_option s) more) && is_free a more)
free_after a s [] = refl
free_after a s (t ∷ more) =
    ap₂ (λ x y. not x && y) (asked_after a s t) (free_after a s more)
    ∙ regrouped (same_option s t) (is_asked a t) (list_any (same_option s) more) (is_free a more)

one_more : {X : Type 0} (x u v w : Bool) (r : X)
    → cond x None (cond ((not u && v) && w) (Some r) None) ≡ cond ((not x && v) && (not u && w)) (Some r) None
one_more true u v w r = refl
one_more false true true w r = refl
one_more false true false w r = refl
one_more false false v w r = refl

taken : (a : Asked) (settings : List Setting)
    → in_turn a settings ≡ cond (is_free a settings && each_once settings) (Some (fold with_setting a settings)) None
taken a [] = refl
taken a (s ∷ more) =
    let after : Asked = fold with_setting (with_setting a s) more in
    ap (cond (is_asked a s) None) (taken (with_setting a s) more
    ∙ ap (λ b. cond (b && each_once more) (Some after) None) (free_after a s more))
    ∙ one_more (is_asked a s) (list_any (same_option s) more) (is_free a more) (each_once more) after

nothing_taken : (s : Setting) → is_asked nothing_asked s ≡ false
nothing_taken (Pages n) = refl
nothing_taken (PageWords n) = refl
nothing_taken (Markers n) = refl
nothing_taken Summary = refl
nothing_taken (Seed n) = refl
nothing_taken (Count n) = refl

all_free : (settings : List Setting) → is_free nothing_asked settings ≡ true
all_free [] = refl
all_free (s ∷ more) = ap₂ (λ x y. not x && y) (nothing_taken s) (all_free more)

set_once : (b : Bool) (a : Asked) → cond b (options_from a) None ≡ option_and_then options_from (cond b (Some a) None)
set_once true a = refl
set_once false a = refl

-- the options that settings make are those that they make one after the other
pub set_in_turn : (settings : List Setting) → options_set settings ≡ option_and_then options_from (in_turn nothing_asked settings)
set_in_turn settings =
    let all : Asked = fold with_setting nothing_asked settings in
    set_once (each_once settings) all
    ∙ ap (option_and_then options_from) (sym (taken nothing_asked settings
    ∙ ap (λ b. cond (b && each_once settings) (Some all) None) (all_free settings)))

-- ---- the order of settings

both : {X : Type 0} (p q same : Bool) (x y : Option X) → (same ≡ false → x ≡ y)
    → cond p None (cond (same || q) None x) ≡ cond q None (cond (same || p) None y)
both true true same x y e = refl
both true false true x y e = refl
both true false false x y e = refl
both false true true x y e = refl
both false true false x y e = refl
both false false true x y e = refl
both false false false x y e = e refl

swapped : (a : Asked) (f s : Setting) (later : List Setting) → in_turn a (f ∷ s ∷ later) ≡ in_turn a (s ∷ f ∷ later)
swapped a f s later =
    ap (λ b. cond (is_asked a f) None (cond b None (in_turn (with_setting (with_setting a f) s) later))) (asked_after a f s)
    ∙ both (is_asked a f) (is_asked a s) (same_option f s) _ _ (λ differ. ap (λ b. in_turn b later) (settings_commute a f s differ))
    ∙ ap (λ b. cond (is_asked a s) None (cond b None (in_turn (with_setting (with_setting a s) f) later)))
    (ap (λ b. b || is_asked a f) (same_option-sym f s) ∙ sym (asked_after a s f))

swapped_after : (earlier : List Setting) (a : Asked) (f s : Setting) (later : List Setting)
    → in_turn a (earlier ++ f ∷ s ∷ later) ≡ in_turn a (earlier ++ s ∷ f ∷ later)
swapped_after [] a f s later = swapped a f s later
swapped_after (e ∷ earlier) a f s later = ap (cond (is_asked a e) None) (swapped_after earlier (with_setting a e) f s later)

pub order_means_nothing : (earlier : List Setting) (f s : Setting) (later : List Setting)
    → options_set (earlier ++ f ∷ s ∷ later) ≡ options_set (earlier ++ s ∷ f ∷ later)
order_means_nothing earlier f s later =
    set_in_turn (earlier ++ f ∷ s ∷ later)
    ∙ ap (option_and_then options_from) (swapped_after earlier nothing_asked f s later)
    ∙ sym (set_in_turn (earlier ++ s ∷ f ∷ later))

-- the options that words ask for, where their settings are taken one after the other
pub asked_in_turn : (settings : Option (List Setting))
    → option_and_then options_set settings ≡ option_and_then options_from (option_and_then (in_turn nothing_asked) settings)
asked_in_turn None = refl
asked_in_turn (Some settings) = set_in_turn settings
