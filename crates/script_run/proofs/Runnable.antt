-- What a script has for the heap.
use Rattle.std.proofs.Common.{◌≡◌, ℕ, zero, suc, ◌<◌, ◌≤◌, ◌&&◌, not, eqb, ltb, Bool, false, List, [], ◌∷◌, length, get_or, All, true, true≢false, refl, sym, ap, subst, ◌∙◌, arith}
use Rattle.std.specs.Prelude.{nat_lt}
use Rattle.std.specs.List.{list_all}
use Rattle.std.proofs.lemmas.Bool.{ltb-true, lt-ltb, not-true}
use Rattle.std.proofs.lemmas.List.Elements.{All-nil, All-append, All-head, All-tail}
use Rattle.std.proofs.lemmas.List.Quantifiers.{position-Some}
use Rattle.gc_graph.specs.Fields.{field_words}
use Rattle.gc_graph.specs.State.{ObjectType, no_type}
use Rattle.gc_graph.specs.Script.{Script, IsScript}
use Rattle.gc_graph.specs.ScriptLaw.{ScriptsAreInRanges}
use Rattle.type_table.specs.declared.faults.TypeFault.TheVariants.{TooManyFields, NoCallback, TooManyWords}
use Rattle.type_table.specs.Faults.{AreGoodTypes, IsTypeFault, is_too_wide, is_over_words, names_none}
use Rattle.heap_engine.specs.Objects.{HaveCallbacks}
use Rattle.script_generator.specs.Generated.{generated}
use Rattle.script_generator.specs.GeneratedLaw.{GeneratedIsInRanges}
use Rattle.script_run.specs.Setting.{IsRunnable}

pub script_is_runnable : (callbacks : ℕ) (bytes : List ℕ) (script : Script) → ScriptsAreInRanges → IsScript callbacks bytes script → IsRunnable callbacks script
script_is_runnable callbacks bytes script law is = record { ranges = law callbacks bytes script is }

pub made_is_runnable : (callbacks seed count : ℕ) → GeneratedIsInRanges → count ≤ 50000 → IsRunnable callbacks (generated seed count)
made_is_runnable callbacks seed count law few = record { ranges = law callbacks seed count few }

pub have_callbacks : (callbacks : ℕ) (script : Script) → IsRunnable callbacks script → HaveCallbacks callbacks script.types
have_callbacks callbacks script runnable = record {
  few = runnable.ranges.modest;
  known = runnable.ranges.known;
  few_weak = runnable.ranges.weak_modest;
  weak = record { known = runnable.ranges.weak_known; shown = runnable.ranges.shown };
}

-- ---- types that make a table

pub types_are_good : (callbacks : ℕ) (script : Script) → IsRunnable callbacks script → AreGoodTypes callbacks script.types
types_are_good callbacks script runnable =
    let known : ℕ → Type 0 = λ number. number < callbacks in
    record {
      few = runnable.ranges.sorts;
      narrow = runnable.ranges.narrow;
      known = λ k d low. All-append known _ _ (runnable.ranges.known k d low) (runnable.ranges.weak_known k d low);
      masked = λ k d low some. runnable.ranges.shown k d low (λ none. absurd (omega (arith, some, ap length none)));
    }

pub none_too_wide : (callbacks : ℕ) (types : List ObjectType) (ty : ℕ) → AreGoodTypes callbacks types → IsTypeFault callbacks types (TooManyFields ty) → ⊥
none_too_wide callbacks types ty good fault =
    let first = position-Some is_too_wide types ty no_type fault.first in
    omega (arith, ltb-true 64 _ first.1, good.narrow ty no_type first.0)

both_true : (a b : Bool) → a ≡ true → b ≡ true → (a && b) ≡ true
both_true true b is also = also
both_true false b is also = absurd (true≢false (sym is))

all_known : (callbacks : ℕ) (numbers : List ℕ) → All (λ number. number < callbacks) numbers → list_all (λ number. nat_lt number callbacks) numbers ≡ true
all_known callbacks [] known = refl
all_known callbacks (n ∷ numbers) known =
    both_true (nat_lt n callbacks) (list_all (λ number. nat_lt number callbacks) numbers)
    (lt-ltb n callbacks (All-head (λ number. number < callbacks) n numbers known))
    (all_known callbacks numbers (All-tail (λ number. number < callbacks) n numbers known))

pub none_unknown : (callbacks : ℕ) (types : List ObjectType) (ty callback : ℕ) → AreGoodTypes callbacks types → IsTypeFault callbacks types (NoCallback ty callback) → ⊥
none_unknown callbacks types ty callback good fault =
    let first = position-Some (names_none callbacks) types ty no_type fault.first in
    true≢false (sym (all_known callbacks _ (good.known ty no_type first.0)) ∙ not-true _ first.1)

second_true : (a b : Bool) → (a && b) ≡ true → b ≡ true
second_true true b both = both
second_true false b both = absurd (true≢false (sym both))

not_over : (count words : ℕ) → (not (eqb count 0) && ltb 64 words) ≡ true → (0 < count → words ≤ 64) → ⊥
not_over zero words over masked = true≢false (sym over)
not_over (suc count) words over masked =
    omega (arith, ltb-true 64 words (second_true (not (eqb (suc count) 0)) (ltb 64 words) over), masked (omega arith))

pub none_over_words : (callbacks : ℕ) (types : List ObjectType) (ty : ℕ) → AreGoodTypes callbacks types → IsTypeFault callbacks types (TooManyWords ty) → ⊥
none_over_words callbacks types ty good fault =
    let first = position-Some is_over_words types ty no_type fault.first in
    not_over (length (get_or types ty no_type).weak_callbacks) (field_words (get_or types ty no_type).kinds) first.1 (good.masked ty no_type first.0)
