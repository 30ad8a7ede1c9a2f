-- Text that was held back on its way to the sink.
use Rattle.std.proofs.Common.{◌≡◌, ℕ, Bool, true, false, List, [], ◌++◌, Option, Some, None, refl, sym, ap, ◌∙◌, subst}
use Rattle.std.specs.Prelude.{Result, Ok, Err, OnOk}
use Rattle.std.proofs.lemmas.List.{append-nil, append_assoc, append_cancel_left}
use Rattle.gc_graph.specs.declared.action.ActionKind.{ActionKind}
use Rattle.gc_graph.specs.Script.{Script}
use Rattle.text_devices.specs.Devices.{GrewByFront}
use Rattle.report_text.specs.Pieces.{PiecesState, no_pieces, with_held_back, TookMore}
use Rattle.heap_engine.specs.View.{View}
use Rattle.script_run.specs.Headline.{IsWholeRun, IsReportCut, IsSummaryCut, IsCutShort, IsTold}
use Rattle.script_run.proofs.Writing.{grew_by_none, grew}
use Rattle.script_run.specs.Setting.{Plan}

pub taken_none : (a : Option (List ℕ)) → TookMore a a
taken_none a = record { text = []; grew = grew_by_none a }

pub taken_on : (a b c : Option (List ℕ)) → TookMore a b → TookMore b c → TookMore a c
taken_on a b c x y = record { text = x.text ++ y.text; grew = grew a b c x.text y.text x.grew y.grew }

nothing_held : (a : Option (List ℕ)) (pieces : PiecesState) → pieces ≡ no_pieces → with_held_back a pieces ≡ a
nothing_held a pieces e = ap (λ (p : PiecesState). with_held_back a p) e ∙ empty a where
  empty : (a : Option (List ℕ)) → with_held_back a no_pieces ≡ a
  empty None = refl
  empty (Some taken) = ap Some (append-nil taken)

-- what the sink took is a beginning of what was told
front_taken : (w z : Option (List ℕ)) (pieces : PiecesState) (text : List ℕ) → TookMore w z → GrewByFront w (with_held_back z pieces) text → GrewByFront w z text
front_taken None z pieces text t g = (g.0, g.1, g.2, t.grew)
front_taken (Some old) z pieces text t g =
    let told : Some ((old ++ t.text) ++ pieces.held) ≡ Some (old ++ g.0) = sym (ap (λ (o : Option (List ℕ)). with_held_back o pieces) t.grew) ∙ g.3 in
    let bytes : (old ++ t.text) ++ pieces.held ≡ old ++ g.0 = cc in
    let front : t.text ++ pieces.held ≡ g.0 = append_cancel_left old (t.text ++ pieces.held) g.0 (sym (append_assoc old t.text pieces.held) ∙ bytes) in
    (t.text, pieces.held ++ g.1, g.2 ∙ ap (λ (f : List ℕ). f ++ g.1) (sym front) ∙ append_assoc t.text pieces.held g.1, t.grew)

report_cut_out : (kinds : List ActionKind) (plan : Plan) (script : Script) (w z : Option (List ℕ)) (last : PiecesState) → TookMore w z
    → IsReportCut kinds plan script w (with_held_back z last) → IsReportCut kinds plan script w z
report_cut_out kinds plan script w z last t cut = record {
  number = cut.number;
  within = cut.within;
  outcomes = cut.outcomes;
  history = cut.history;
  lawful = cut.lawful;
  ending = cut.ending;
  ends = cut.ends;
  written = front_taken w z last _ t cut.written;
}

summary_cut_out : (kinds : List ActionKind) (plan : Plan) (script : Script) (w z : Option (List ℕ)) (last : PiecesState) → TookMore w z
    → IsSummaryCut kinds plan script w (with_held_back z last) → IsSummaryCut kinds plan script w z
summary_cut_out kinds plan script w z last t cut = record {
  outcomes = cut.outcomes;
  history = cut.history;
  lawful = cut.lawful;
  written = front_taken w z last _ t cut.written;
}

pub cut_out : (summary : Bool) (kinds : List ActionKind) (plan : Plan) (script : Script) (w z : Option (List ℕ)) (first last : PiecesState) → first ≡ no_pieces → TookMore w z
    → IsCutShort summary kinds plan script (with_held_back w first) (with_held_back z last) → IsCutShort summary kinds plan script w z
cut_out false kinds plan script w z first last none t cut =
    report_cut_out kinds plan script w z last t (subst (λ (o : Option (List ℕ)). IsReportCut kinds plan script o (with_held_back z last)) (nothing_held w first none) cut)
cut_out true kinds plan script w z first last none t cut =
    summary_cut_out kinds plan script w z last t (subst (λ (o : Option (List ℕ)). IsSummaryCut kinds plan script o (with_held_back z last)) (nothing_held w first none) cut)

-- ---- at the end

pub told_at_last : {T E : Type 0} (summary : Bool) (kinds : List ActionKind) (plan : Plan) (script : Script) (w z : Option (List ℕ)) (first last : PiecesState) (heap : View) (result : Result T E)
    → first ≡ no_pieces → OnOk result (last ≡ no_pieces) → TookMore w z
    → IsTold summary kinds plan script (with_held_back w first) (with_held_back z last) heap result → IsTold summary kinds plan script w z heap result
told_at_last summary kinds plan script w z first last heap (Ok u) none out t whole =
    subst (λ (o : Option (List ℕ)). IsWholeRun summary kinds plan script w o heap) (nothing_held z last out)
    (subst (λ (o : Option (List ℕ)). IsWholeRun summary kinds plan script o (with_held_back z last) heap) (nothing_held w first none) whole)
told_at_last summary kinds plan script w z first last heap (Err e) none out t cut = cut_out summary kinds plan script w z first last none t cut
