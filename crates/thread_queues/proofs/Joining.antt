-- What the first pass has seen when other passes were joined to it.
use Rattle.std.proofs.Common.{◌≡◌, ◌⊎◌, ℕ, List, [], ◌∷◌, ◌++◌, refl, sym, ap, ◌∙◌, subst, inl, inr, arith, eqb, not, Contains}
use Rattle.std.specs.List.{All}
use Rattle.std.proofs.lemmas.Bool.{eq-eqb, true≢false}
use Rattle.std.proofs.lemmas.List.{append-nil, append_assoc}
use Rattle.std.proofs.lemmas.List.Elements.{All-nil, All-append, All-weaker, Contains-push_cases}
use Rattle.gc_graph.specs.Members.{was_in, has_passed}
use Rattle.cross_thread_region.specs.declared.chronicle.PlacedEntry.{PlacedEntry}
use Rattle.cross_thread_region.specs.Calls.{PassView, named}
use Rattle.cross_thread_region.specs.Passes.{joined_with}
use Rattle.cross_thread_region.specs.Rule.{BeginsOther}
use Rattle.cross_thread_region.specs.Plays.{longer, without}
use Rattle.cross_thread_region.specs.Own.{entries_naming, joined_begins, joined_gone, joined_other}
use Rattle.thread_queues.specs.Going.{HaveMet}

-- a pass was joined to the first one: its number isn't out, and just those of its entries that it had seen were seen
pub record HasMet (now p : PassView) : Type 0 where
  pub gone : Contains now.out p.number → ⊥
  pub same : entries_naming named p.number now.seen ≡ entries_naming named p.number p.seen

-- all passes but these were joined to the first one
pub record HaveMetBut (passes left : List PassView) (begun now : PassView) : Type 0 where
  pub rest : List PlacedEntry
  pub grown : now.seen ≡ begun.seen ++ rest
  pub outs : All (λ (p : PlacedEntry). Contains begun.out p.entry.thread) rest
  pub within : (n : ℕ) → Contains now.out n → Contains begun.out n
  pub met : (p : PassView) → Contains passes p → Contains left p ⊎ HasMet now p

-- none was
pub met_none : (passes : List PassView) (begun : PassView) → HaveMetBut passes passes begun begun
met_none passes begun = record {
  rest = [];
  grown = sym (append-nil begun.seen);
  outs = All-nil (λ (p : PlacedEntry). Contains begun.out p.entry.thread);
  within = λ n out. out;
  met = λ p among. inl among;
}

left_out : (n : ℕ) (numbers : List ℕ) → Contains (without n numbers) n → ⊥
left_out n numbers there =
    true≢false (sym (has_passed (λ m. not (eqb m n)) numbers n there) ∙ ap not (eq-eqb n n refl))

module _ (passes old left : List PassView) (begun now own joined : PassView) (is : old ≡ left ++ own ∷ []) (h : HaveMetBut passes old begun now)
    (j : joined ≡ joined_with now own) (b : BeginsOther named own.number now.seen own.seen now.out) where
  seen_now : joined.seen ≡ longer now.seen own.seen
  seen_now = ap (λ (p : PassView). p.seen) j

  out_now : (n : ℕ) → Contains joined.out n → Contains (without own.number now.out) n
  out_now n out = subst (λ numbers. Contains numbers n) (ap (λ (p : PassView). p.out) j) out

  out_before : (n : ℕ) → Contains joined.out n → Contains now.out n
  out_before n out = was_in (λ m. not (eqb m own.number)) now.out n (out_now n out)

  own_met : HasMet joined own
  own_met = record {
    gone = λ out. left_out own.number now.out (out_now own.number out);
    same = ap (entries_naming named own.number) seen_now ∙ joined_other named own.number now.seen own.seen now.out b;
  }

  still_met : (p : PassView) → HasMet now p → HasMet joined p
  still_met p m = record {
    gone = λ out. m.gone (out_before p.number out);
    same =
        ap (entries_naming named p.number) seen_now ∙ joined_gone named p.number own.number now.seen own.seen now.out m.gone b ∙ m.same;
  }

  left_or_met : (p : PassView) → Contains (left ++ own ∷ []) p → Contains left p ⊎ HasMet joined p
  left_or_met p among = elim (Contains-push_cases left own p among) [
    | inl later ↦ inl later
    | inr here ↦ inr (subst (HasMet joined) here own_met)
  ]

  -- one more was
  pub met_next : HaveMetBut passes left begun joined
  met_next = let more = joined_begins named own.number now.seen own.seen now.out b in record {
    rest = h.rest ++ more.0;
    grown = seen_now ∙ more.1 ∙ ap (λ l. l ++ more.0) h.grown ∙ append_assoc begun.seen h.rest more.0;
    outs =
        All-append (λ (p : PlacedEntry). Contains begun.out p.entry.thread) h.rest more.0 h.outs
        (All-weaker (λ (p : PlacedEntry). Contains now.out p.entry.thread) (λ (p : PlacedEntry). Contains begun.out p.entry.thread)
        (λ p out. h.within p.entry.thread out) more.0 more.2);
    within = λ n out. h.within n (out_before n out);
    met = λ p among. elim (h.met p among) [
      | inl waits ↦ left_or_met p (subst (λ ps. Contains ps p) is waits)
      | inr m ↦ inr (still_met p m)
    ];
  }

-- all were
pub met_all : (passes left : List PassView) (begun now : PassView) → HaveMetBut passes left begun now → left ≡ [] → HaveMet passes begun now.seen
met_all passes left begun now h none = record {
  rest = h.rest;
  grown = h.grown;
  outs = h.outs;
  met = λ p among. elim (h.met p among) [
    | inl waits ↦ absurd (omega (arith, (subst (λ ps. Contains ps p) none waits).1))
    | inr m ↦ m.same
  ];
}

-- a pass that differs from another one only in what it has seen and has out, and then from that one's
pub seen_alone : (begun pass new own : PassView) → pass ≡ record begun { seen = pass.seen; out = pass.out } → new ≡ joined_with pass own
    → new ≡ record begun { seen = new.seen; out = new.out }
seen_alone begun pass new own before is =
    is ∙ ap (λ (p : PassView). record p { seen = longer pass.seen own.seen; out = without own.number pass.out }) before
    ∙ ap (λ (s : List PlacedEntry). record begun { seen = s; out = without own.number pass.out }) (sym (ap (λ (p : PassView). p.seen) is))
    ∙ ap (λ (o : List ℕ). record begun { seen = new.seen; out = o }) (sym (ap (λ (p : PassView). p.out) is))
