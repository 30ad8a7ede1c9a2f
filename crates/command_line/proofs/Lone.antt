-- Two dashes alone are no setting, and no value of one.
use Rattle.std.proofs.Common.{◌≡◌, ◌∙◌, ℕ, ◌||◌, Bool, true, false, true≢false, List, [], ◌∷◌, Option, Some, None, refl, sym, ap, codes, cond}
use Rattle.std.specs.List.{list_any}
use Rattle.std.proofs.lemmas.Slice.Eq.{bytes_eq-Decides}
use Rattle.gc_graph.specs.Words.{is_text, is_number}
use Rattle.command_line.specs.Settings.{Setting, before, setting_alone, setting_named, settings_of, takes_next}
use Rattle.command_line.specs.ClapRules.{is_lone}
use Rattle.command_line.proofs.Names.{either_way}
use Rattle.command_line.proofs.Said.{pages, page_words, markers, seed, count}
use Rattle.command_line.proofs.Meanings.{no_key_setting}

-- the word is they
lone_is : (w : List ℕ) → is_lone w ≡ true → w ≡ codes "--"
lone_is w e = sym ((bytes_eq-Decides (codes "--") w).0 (sym (either_way (codes "--") w) ∙ e))

-- the last test of several
or_nothing_more : (b : Bool) → (b || false) ≡ b
or_nothing_more true = refl
or_nothing_more false = refl

-- a setting before what can't be read
nothing_before : (t : Option Setting) → before t None ≡ None
nothing_before None = refl
nothing_before (Some t) = refl

-- none of five settings
five : (p w m g c : Bool) (a b d e f : Option Setting) → a ≡ None → b ≡ None → d ≡ None → e ≡ None → f ≡ None
    → cond p a (cond w b (cond m d (cond g e (cond c f None)))) ≡ None
five true w m g c a b d e f ia ib id ie if' = ia
five false true m g c a b d e f ia ib id ie if' = ib
five false false true g c a b d e f ia ib id ie if' = id
five false false false true c a b d e f ia ib id ie if' = ie
five false false false false true a b d e f ia ib id ie if' = if'
five false false false false false a b d e f ia ib id ie if' = refl

-- no name makes a setting of what is no number
no_number_named : (w v : List ℕ) → is_number v ≡ false → setting_named w v ≡ None
no_number_named w v e =
    five (is_text w (codes "--pages")) (is_text w (codes "--page-words")) (is_text w (codes "--markers")) (is_text w (codes "--generate")) (is_text w (codes "--count")) _ _ _ _ _
    (no_key_setting pages v e) (no_key_setting page_words v e) (no_key_setting markers v e) (no_key_setting seed v e) (no_key_setting count v e)

-- neither the word alone nor with the next one
none_by : (b : Bool) (named alone : Option Setting) (more others : Option (List Setting)) → before named more ≡ None → others ≡ None
    → cond b (before named more) (before alone others) ≡ None
none_by true named alone more others e f = e
none_by false named alone more others e f = ap (before alone) f ∙ nothing_before alone

-- the next word is they, or a later one is
next_lone : (b rest : Bool) (w v : List ℕ) (more : Option (List Setting)) → is_lone v ≡ b → (b || rest) ≡ true → (rest ≡ true → more ≡ None) → before (setting_named w v) more ≡ None
next_lone true rest w v more is e later = ap (λ t. before t more) (no_number_named w v (ap is_number (lone_is v is)))
next_lone false rest w v more is e later = ap (before (setting_named w v)) (later e) ∙ nothing_before (setting_named w v)

-- the first word is they, or a later one is
first_lone : (b : Bool) (w v : List ℕ) (more : List (List ℕ)) → is_lone w ≡ b → (b || list_any is_lone (v ∷ more)) ≡ true
    → (list_any is_lone (v ∷ more) ≡ true → settings_of (v ∷ more) ≡ None) → (list_any is_lone more ≡ true → settings_of more ≡ None) → settings_of (w ∷ v ∷ more) ≡ None
first_lone true w v more is e next later = ap (λ w. settings_of (w ∷ v ∷ more)) (lone_is w is)
first_lone false w v more is e next later =
    none_by (takes_next w) (setting_named w v) (setting_alone w) (settings_of more) (settings_of (v ∷ more))
    (next_lone (is_lone v) (list_any is_lone more) w v (settings_of more) refl e later) (next e)

-- words with two dashes alone are refused
pub lone_refused : (words : List (List ℕ)) → list_any is_lone words ≡ true → settings_of words ≡ None
lone_refused [] e = absurd (true≢false (sym e))
lone_refused (w ∷ []) e = ap (λ w. settings_of (w ∷ [])) (lone_is w (sym (or_nothing_more (is_lone w)) ∙ e))
lone_refused (w ∷ v ∷ more) e = first_lone (is_lone w) w v more refl e (lone_refused (v ∷ more)) (lone_refused more)
