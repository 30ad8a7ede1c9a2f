-- A command is refused for the first reason that it has, or has none and is done.
use Rattle.std.proofs.Common.{◌≡◌, ◌⊎◌, ◌↔◌, ◌<◌, Bool, true, false, true≢false, List, [], ◌∷◌, ◌++◌, Option, Some, None, refl, sym, ap, ◌∙◌, subst, inl, inr, arith, Contains, MatchOption}
use Rattle.std.proofs.lemmas.Bool.{cases_order}
use Rattle.gc_graph.specs.declared.command.Command.{Command}
use Rattle.gc_graph.specs.declared.line.Line.{Line}
use Rattle.gc_graph.specs.declared.line.Line.TheVariants as L
use Rattle.gc_graph.specs.declared.line.Refusal.{Refusal}
use Rattle.gc_graph.specs.declared.line.Refusal.TheVariants as R
use Rattle.gc_graph.specs.State.{State}
use Rattle.gc_graph.specs.Members.{Contains-head, Contains-cons_cases}
use Rattle.std.proofs.lemmas.List.Elements.{Contains-append_right}
use Rattle.gc_graph.specs.RefusalsExactLaw.{rank, IsFirstReason}
use Rattle.gc_graph.specs.Commands.{HasReason}

-- ---- cases, each with what was found

pub either_way : {T : Type 0} (o : Option T) (A : Type 0) (B : T → Type 0) (Q : Type 0) → (o ≡ None → A → Q) → ((n : T) → o ≡ Some n → B n → Q)
    → MatchOption o A B → Q
either_way None A B Q a b m = a refl m
either_way (Some n) A B Q a b m = b n refl m

-- ---- lines that are no refusal

abbrev pub is_refusal : Line → Bool
is_refusal (L.Refused why) = true
is_refusal told = false

nothing_there : (told : Line) → Contains [] told → ⊥
nothing_there told c = omega (arith, c.1)

-- lines with another line among them
pub not_refused : (lines : List Line) (told : Line) → is_refusal told ≡ false → Contains lines told → (why : Refusal) → lines ≡ L.Refused why ∷ [] → ⊥
not_refused lines told other c why e =
    elim (Contains-cons_cases (L.Refused why) [] told (subst (λ ls. Contains ls told) e c)) [
      | inl same ↦ true≢false (ap is_refusal same ∙ other)
      | inr later ↦ nothing_there told later
    ]

pub other_line : (lines : List Line) (told : Line) → is_refusal told ≡ false → lines ≡ told ∷ [] → (why : Refusal) → lines ≡ L.Refused why ∷ [] → ⊥
other_line lines told other e = not_refused lines told other (subst (λ ls. Contains ls told) (sym e) (Contains-head told []))

pub after_lines : (lines before : List Line) (told : Line) (rest : List Line) → is_refusal told ≡ false → lines ≡ before ++ told ∷ rest
    → (why : Refusal) → lines ≡ L.Refused why ∷ [] → ⊥
after_lines lines before told rest other e =
    not_refused lines told other
    (subst (λ ls. Contains ls told) (sym e) (Contains-append_right before (told ∷ rest) told (Contains-head told rest)))

-- ---- the first reason

rank_same : (why other : Refusal) → rank why ≡ rank other → why ≡ other
rank_same R.Phase R.Phase e = refl
rank_same R.Null R.Null e = refl
rank_same R.Field R.Field e = refl
rank_same R.Kind R.Kind e = refl
rank_same R.Stack R.Stack e = refl
rank_same R.Empty R.Empty e = refl
rank_same R.Phase other e = absurd (omega (arith, e))
rank_same R.Null other e = absurd (omega (arith, e))
rank_same R.Field other e = absurd (omega (arith, e))
rank_same R.Kind other e = absurd (omega (arith, e))
rank_same R.Stack other e = absurd (omega (arith, e))
rank_same R.Empty other e = absurd (omega (arith, e))

-- refused for its first reason
pub record IsRefusedSo (old : State) (command : Command) (lines : List Line) : Type 0 where
  pub why : Refusal
  pub told : lines ≡ L.Refused why ∷ []
  pub first : IsFirstReason old command why

-- or done, and without a reason
pub record IsDoneSo (old : State) (command : Command) (lines : List Line) : Type 0 where
  pub told : (why : Refusal) → lines ≡ L.Refused why ∷ [] → ⊥
  pub none : (why : Refusal) → HasReason old command why → ⊥

abbrev pub Verdict : State → Command → List Line → Type 0
Verdict old command lines = IsRefusedSo old command lines ⊎ IsDoneSo old command lines

module _ (old : State) (command : Command) (lines : List Line) where
  one_first : (why other : Refusal) → IsFirstReason old command why → IsFirstReason old command other → why ≡ other
  one_first why other h k = elim (cases_order (rank why) (rank other)) [
    | inl same ↦ rank_same why other same
    | inr apart ↦ elim apart [
      | inl less ↦ absurd (k.1 why less h.0)
      | inr more ↦ absurd (h.1 other more k.0)
    ]
  ]

  pub exactly : Verdict old command lines → (why : Refusal) → (lines ≡ L.Refused why ∷ []) ↔ IsFirstReason old command why
  exactly verdict why = elim verdict [
    | inl r ↦ (
      λ e. (let line : L.Refused r.why ∷ [] ≡ L.Refused why ∷ [] = sym r.told ∙ e in let same : r.why ≡ why = cc in
          subst (IsFirstReason old command) same r.first),
      λ first. r.told ∙ ap (λ w. L.Refused w ∷ []) (one_first r.why why r.first first),
    )
    | inr d ↦ ((λ e. absurd (d.told why e)), (λ first. absurd (d.none why first.0)))
  ]

  -- the first, where none before it holds
  before : (why : Refusal) → (0 < rank why → HasReason old command R.Phase → ⊥) → (1 < rank why → HasReason old command R.Null → ⊥)
      → (2 < rank why → HasReason old command R.Field → ⊥) → (3 < rank why → HasReason old command R.Kind → ⊥)
      → (4 < rank why → HasReason old command R.Stack → ⊥) → (other : Refusal) → rank other < rank why → HasReason old command other → ⊥
  before why a b c d e R.Phase l x = a l x
  before why a b c d e R.Null l x = b l x
  before why a b c d e R.Field l x = c l x
  before why a b c d e R.Kind l x = d l x
  before why a b c d e R.Stack l x = e l x
  before R.Phase a b c d e R.Empty l x = omega (arith, l)
  before R.Null a b c d e R.Empty l x = omega (arith, l)
  before R.Field a b c d e R.Empty l x = omega (arith, l)
  before R.Kind a b c d e R.Empty l x = omega (arith, l)
  before R.Stack a b c d e R.Empty l x = omega (arith, l)
  before R.Empty a b c d e R.Empty l x = omega (arith, l)

  pub first_of_all : (why : Refusal) → lines ≡ L.Refused why ∷ [] → HasReason old command why → (0 < rank why → HasReason old command R.Phase → ⊥)
      → (1 < rank why → HasReason old command R.Null → ⊥) → (2 < rank why → HasReason old command R.Field → ⊥)
      → (3 < rank why → HasReason old command R.Kind → ⊥) → (4 < rank why → HasReason old command R.Stack → ⊥) → Verdict old command lines
  first_of_all why told h a b c d e = inl (record { why = why; told = told; first = (h, before why a b c d e) })

  -- done, where there is none
  no_reason : (HasReason old command R.Phase → ⊥) → (HasReason old command R.Null → ⊥) → (HasReason old command R.Field → ⊥)
      → (HasReason old command R.Kind → ⊥) → (HasReason old command R.Stack → ⊥) → (HasReason old command R.Empty → ⊥) → (why : Refusal)
      → HasReason old command why → ⊥
  no_reason a b c d e f R.Phase x = a x
  no_reason a b c d e f R.Null x = b x
  no_reason a b c d e f R.Field x = c x
  no_reason a b c d e f R.Kind x = d x
  no_reason a b c d e f R.Stack x = e x
  no_reason a b c d e f R.Empty x = f x

  pub done : ((why : Refusal) → lines ≡ L.Refused why ∷ [] → ⊥) → (HasReason old command R.Phase → ⊥) → (HasReason old command R.Null → ⊥)
      → (HasReason old command R.Field → ⊥) → (HasReason old command R.Kind → ⊥) → (HasReason old command R.Stack → ⊥)
      → (HasReason old command R.Empty → ⊥) → Verdict old command lines
  done told a b c d e f = inr (record { told = told; none = no_reason a b c d e f })
