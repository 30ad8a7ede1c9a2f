-- The walk of `clap` over words makes the settings that the words are.
use Rattle.std.proofs.Common.{◌≡◌, ◌∙◌, ◌||◌, Bool, true, false, true≢false, List, [], ◌∷◌, Option, Some, None, refl, sym, subst, ap, codes, cond}
use Rattle.std.specs.Prelude.{fold, option_and_then}
use Rattle.std.specs.Option.{option_map_or}
use Rattle.std.specs.List.{list_any}
use Rattle.std.specs.Str.{bytes_eq}
use Rattle.std.proofs.lemmas.Bool.{or_parts}
use Rattle.gc_graph.specs.Words.{is_text, is_number}
use Rattle.clap.specs.Kinds.{Kinds, or_else}
use Rattle.clap.specs.Walk.{Row, Text, Walk, reacted, settled, walked}
use Rattle.clap.specs.Faults.{react_fault, settle_fault, turn_fault, use_fault, walk_fault}
use Rattle.command_line.specs.declared.asked.Asked.{Asked}
use Rattle.command_line.specs.Settings.{Setting, before, setting_alone, setting_named, settings_of, takes_next}
use Rattle.command_line.specs.ClapRules.{is_lone}
use Rattle.command_line.specs.Heard.{asked_by}
use Rattle.command_line.proofs.Built.{held, idle_at, rules, shape, wait_at}
use Rattle.command_line.proofs.Said.{Key, Said, pages, page_words, markers, seed, count, asks, add, key_name, key_setting, setting_of, heard_of}
use Rattle.command_line.proofs.OneMore.{with_settings, asked_of, one_more_said}
use Rattle.command_line.proofs.Uses.{ComesTo, at, by_id, has_some, react_comes, rows, rule_for, settle_comes, settles, some_first, values_for}
use Rattle.command_line.proofs.Turns.{dashes_fail, refuses_it, takes_it, value_read}
use Rattle.command_line.proofs.Meanings.{dashed, dashed_is_no_number, dashes, lone, means, names, no_key_setting, plainly, refuses, sets, short_is_no_number}

-- ---- where a walk ends

-- it is refused where nothing is asked for, and else its rows hold what is
abbrev pub Ends : Kinds → List Row → Option Asked → Type 0
Ends fault now asked = (has_some fault ≡ true → asked ≡ None)
    × (has_some fault ≡ false → (all : List Said) × (now ≡ rows all) × (asked_by (heard_of all) ≡ asked))

-- what is refused of the words from here on
abbrev pub fault_from : Walk → List Text → Kinds
fault_from walk words = or_else (walk_fault shape [] walk words) (settle_fault rules false (fold (walked rules []) walk words).held)

-- the rows at their end
abbrev pub rows_from : Walk → List Text → List Row
rows_from walk words = (settled rules (fold (walked rules []) walk words).held).rows

-- the walk ends so
abbrev pub Comes : Walk → List Text → Option Asked → Type 0
Comes walk words asked = Ends (fault_from walk words) (rows_from walk words) asked

-- it is refused, and nothing is asked for
failing : (fault : Kinds) (now : List Row) (asked : Option Asked) → has_some fault ≡ true → asked ≡ None → Ends fault now asked
failing fault now asked bad none = (λ _. none, λ good. absurd (true≢false (sym bad ∙ good)))

-- the first word is refused
refused_here : (walk : Walk) (w : Text) (more : List Text) (asked : Option Asked) → has_some (turn_fault shape [] walk w) ≡ true → asked ≡ None → Comes walk (w ∷ more) asked
unfolding walk_fault
refused_here walk w more asked bad none =
    let later = walk_fault shape [] (walked rules [] walk w) more in
    failing (fault_from walk (w ∷ more)) (rows_from walk (w ∷ more)) asked
    (some_first (or_else (turn_fault shape [] walk w) later) (settle_fault rules false (fold (walked rules []) walk (w ∷ more)).held)
    (some_first (turn_fault shape [] walk w) later bad)) none

-- the first word is taken, and the walk goes on after it
goes_on : (walk after : Walk) (w : Text) (more : List Text) (asked : Option Asked) → turn_fault shape [] walk w ≡ [] → walked rules [] walk w ≡ after
    → Comes after more asked → Comes walk (w ∷ more) asked
unfolding walk_fault
goes_on walk after w more asked none to rest =
    subst (λ (q : Kinds × List Row). Ends q.0 q.1 asked)
    (sym (λ i. (
      or_else (or_else (none i) (walk_fault shape [] (to i) more)) (settle_fault rules false (fold (walked rules []) (to i) more).held),
      (settled rules (fold (walked rules []) (to i) more).held).rows,
    )))
    rest

-- what comes to all that was said ends so
comes_to : (fault : Kinds) (now : List Row) (r : Option (List Said)) → ComesTo fault now r → Ends fault now (asked_of r)
comes_to fault now None bad = failing fault now None bad refl
comes_to fault now (Some all) good = (λ bad. absurd (true≢false (sym bad ∙ ap has_some good.0)), λ _. (all, good.1, refl))

-- there is no further word
done_here : (all : List Said) (p : Option (Key × Text)) → Comes (idle_at (at all p)) [] (asked_of (settles all p))
unfolding walk_fault
done_here all p = comes_to (settle_fault rules false (at all p)) (settled rules (at all p)).rows (settles all p) (settle_comes all p)

-- ---- a value is wanted

same_key : (k : Key) → bytes_eq (key_name k) (key_name k) ≡ true
same_key pages = refl
same_key page_words = refl
same_key markers = refl
same_key seed = refl
same_key count = refl

-- an option without a value is refused
no_value : (k : Key) (rs : List Row) → has_some (settle_fault rules false (held rs (Some (key_name k, [])))) ≡ true
no_value k rs = ap (λ a. has_some (option_map_or (λ a. use_fault false a [] rs) a [])) (by_id k)

done_waiting : (k : Key) (rs : List Row) → Comes (wait_at (key_name k) (held rs (Some (key_name k, [])))) [] None
unfolding walk_fault
done_waiting k rs = failing (settle_fault rules false (held rs (Some (key_name k, [])))) _ None (no_value k rs) refl

-- settings that can't be read ask for nothing
after_none : (asked : Option Asked) → with_settings asked None ≡ None
after_none None = refl
after_none (Some a) = refl

-- without settings it stays what was asked
after_no_more : (asked : Option Asked) → with_settings asked (Some []) ≡ asked
after_no_more None = refl
after_no_more (Some a) = refl

-- a setting that can't be read asks for nothing
vain : (asked : Option Asked) (t : Option Setting) (more : Option (List Setting)) → t ≡ None → with_settings asked (before t more) ≡ None
vain asked t more none = ap (λ t. with_settings asked (before t more)) none ∙ after_none asked

-- the word is refused as a value, or it is one
value_goes : (k : Key) (v : Text) (more : List Text) (later : Option (List Setting)) (all : List Said) → is_text v (codes "--") ≡ false
    → Comes (idle_at (at all (Some (k, v)))) more (with_settings (asked_of (add (asks k v) all)) later)
    → Comes (wait_at (key_name k) (held (rows all) (Some (key_name k, [])))) (v ∷ more) (with_settings (asked_of (Some all)) (before (key_setting k v) later))
value_goes k v more later all other rest =
    let walk = wait_at (key_name k) (held (rows all) (Some (key_name k, []))) in
    let asked = with_settings (asked_of (Some all)) (before (key_setting k v) later) in
    elim (dashes v) as (λ _. Comes walk (v ∷ more) asked) [
      | lone is ↦ absurd (true≢false (sym (ap (λ w. is_text w (codes "--")) is) ∙ other))
      | dashed x xs is ↦ refused_here walk v more asked
          (ap (λ w. has_some (turn_fault shape [] walk w)) is ∙ dashes_fail x xs (key_name k) (held (rows all) (Some (key_name k, []))) (no_value k (rows all)))
          (vain (asked_of (Some all)) (key_setting k v) later (no_key_setting k v (ap is_number is ∙ dashed_is_no_number (45 ∷ x ∷ xs))))
      | plainly long not named alone ↦ elim (value_read v (key_name k) (rows all) (by_id k) (same_key k) long not) as (λ _. Comes walk (v ∷ more) asked) [
        | refuses_it flags short bad ↦ refused_here walk v more asked bad
            (vain (asked_of (Some all)) (key_setting k v) later (no_key_setting k v (short_is_no_number v flags short)))
        | takes_it none to ↦ goes_on walk (idle_at (at all (Some (k, v)))) v more asked none to
            (subst (λ (o : Option Asked). Comes (idle_at (at all (Some (k, v)))) more o) (sym (one_more_said all (asks k v) later)) rest)
      ]
    ]

-- ---- a word where nothing waits

module _ (all : List Said) (p : Option (Key × Text)) (w : Text) where
  -- where the walk is
  abbrev start : Walk
  start = idle_at (at all p)

  -- a setting by itself
  module _ (s : Said) (fails : turn_fault shape [] (idle_at (at all p)) w ≡ react_fault rules false (rule_for s) (values_for s) (at all p))
      (walks : walked rules [] (idle_at (at all p)) w ≡ idle_at (reacted rules (rule_for s) (values_for s) (at all p)))
      (more : List Text) (later : Option (List Setting))
      (rest : (new : List Said) → Comes (idle_at (at new None)) more (with_settings (asked_of (Some new)) later)) where
    set_by : (r : Option (List Said)) → ComesTo (react_fault rules false (rule_for s) (values_for s) (at all p)) (reacted rules (rule_for s) (values_for s) (at all p)).rows r
        → Comes start (w ∷ more) (with_settings (asked_of r) later)
    set_by None bad = refused_here start w more None (ap has_some fails ∙ bad) refl
    set_by (Some new) good = goes_on start (idle_at (at new None)) w more (with_settings (asked_of (Some new)) later) (fails ∙ good.0)
        (walks ∙ ap (λ rs. idle_at (held rs None)) good.1) (rest new)

    after_said : (r : Option (List Said)) → with_settings (asked_of r) (before (setting_of s) later) ≡ with_settings (asked_of (option_and_then (add s) r)) later
    after_said None = refl
    after_said (Some new) = one_more_said new s later

    sets_goes : Comes start (w ∷ more) (with_settings (asked_of (settles all p)) (before (setting_of s) later))
    sets_goes =
        subst (λ (o : Option Asked). Comes start (w ∷ more) o) (sym (after_said (settles all p)))
        (set_by (option_and_then (add s) (settles all p)) (react_comes s all p))

  -- a name
  module _ (k : Key) (fails : turn_fault shape [] (idle_at (at all p)) w ≡ settle_fault rules false (at all p))
      (walks : walked rules [] (idle_at (at all p)) w ≡ wait_at (key_name k) (record (settled rules (at all p)) { pending = Some (key_name k, []) }))
      (more : List Text) (asked : Option Asked → Option Asked) (nothing : asked None ≡ None)
      (rest : (new : List Said) → Comes (wait_at (key_name k) (held (rows new) (Some (key_name k, [])))) more (asked (asked_of (Some new)))) where
    name_by : (r : Option (List Said)) → ComesTo (settle_fault rules false (at all p)) (settled rules (at all p)).rows r → Comes start (w ∷ more) (asked (asked_of r))
    name_by None bad = refused_here start w more (asked None) (ap has_some fails ∙ bad) nothing
    name_by (Some new) good = goes_on start (wait_at (key_name k) (held (rows new) (Some (key_name k, [])))) w more (asked (asked_of (Some new))) (fails ∙ good.0)
        (walks ∙ ap (λ rs. wait_at (key_name k) (held rs (Some (key_name k, [])))) good.1) (rest new)

    name_goes : Comes start (w ∷ more) (asked (asked_of (settles all p)))
    name_goes = name_by (settles all p) (settle_comes all p)

-- ---- all the words

-- neither the word alone nor with the next one is a setting
refused_either : (b : Bool) (asked : Option Asked) (named alone : Option Setting) (more others : Option (List Setting))
    → (b ≡ true → named ≡ None) → alone ≡ None → with_settings asked (cond b (before named more) (before alone others)) ≡ None
refused_either true asked named alone more others e f = vain asked named more (e refl)
refused_either false asked named alone more others e f = vain asked alone others f

-- the walk over all words makes the settings that they are
pub runs : (words : List Text) → list_any is_lone words ≡ false → (all : List Said) (p : Option (Key × Text))
    → Comes (idle_at (at all p)) words (with_settings (asked_of (settles all p)) (settings_of words))
runs [] none all p = subst (λ (o : Option Asked). Comes (idle_at (at all p)) [] o) (sym (after_no_more (asked_of (settles all p)))) (done_here all p)
runs (w ∷ []) none all p =
    let asked = asked_of (settles all p) in
    elim (means w (or_parts (is_lone w) false none).0) as (λ _. Comes (idle_at (at all p)) (w ∷ []) (with_settings asked (before (setting_alone w) (Some [])))) [
      | sets s next alone fails walks ↦ subst (λ (t : Option Setting). Comes (idle_at (at all p)) (w ∷ []) (with_settings asked (before t (Some [])))) (sym alone)
          (sets_goes all p w s (fails all p) (walks all p) [] (Some []) (λ new. runs [] refl new None))
      | names k next alone named fails walks ↦ subst (λ (o : Option Asked). Comes (idle_at (at all p)) (w ∷ []) o) (sym (vain asked (setting_alone w) (Some []) alone))
          (name_goes all p w k (fails all p) (walks all p) [] (λ _. None) refl (λ new. done_waiting k (rows new)))
      | refuses alone named fails ↦ refused_here (idle_at (at all p)) w [] (with_settings asked (before (setting_alone w) (Some []))) (fails all p) (vain asked (setting_alone w) (Some []) alone)
    ]
runs (w ∷ v ∷ more) none all p =
    let asked = asked_of (settles all p) in
    let two = or_parts (is_lone w) (is_lone v || list_any is_lone more) none in
    let three = or_parts (is_lone v) (list_any is_lone more) two.1 in
    elim (means w two.0) as (λ _. Comes (idle_at (at all p)) (w ∷ v ∷ more) (with_settings asked (settings_of (w ∷ v ∷ more)))) [
      | sets s next alone fails walks ↦ subst (λ (o : Option (List Setting)). Comes (idle_at (at all p)) (w ∷ v ∷ more) (with_settings asked o))
          (sym (λ i. cond (next i) (before (setting_named w v) (settings_of more)) (before (alone i) (settings_of (v ∷ more)))))
          (sets_goes all p w s (fails all p) (walks all p) (v ∷ more) (settings_of (v ∷ more)) (λ new. runs (v ∷ more) two.1 new None))
      | names k next alone named fails walks ↦ subst (λ (o : Option (List Setting)). Comes (idle_at (at all p)) (w ∷ v ∷ more) (with_settings asked o))
          (sym (λ i. cond (next i) (before (named v i) (settings_of more)) (before (setting_alone w) (settings_of (v ∷ more)))))
          (name_goes all p w k (fails all p) (walks all p) (v ∷ more) (λ asked. with_settings asked (before (key_setting k v) (settings_of more))) refl
          (λ new. value_goes k v more (settings_of more) new three.0 (runs more three.1 new (Some (k, v)))))
      | refuses alone named fails ↦ refused_here (idle_at (at all p)) w (v ∷ more) (with_settings asked (settings_of (w ∷ v ∷ more))) (fails all p)
          (refused_either (takes_next w) asked (setting_named w v) (setting_alone w) (settings_of more) (settings_of (v ∷ more)) (named v) alone)
    ]
