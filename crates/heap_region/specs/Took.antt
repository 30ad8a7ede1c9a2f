-- For crates above: what a state is after entries of the region's history were taken.
use Rattle.std.proofs.Common.{◌≡◌, List, [], ◌∷◌, ◌++◌, refl, sym, ap, ◌∙◌}
use Rattle.std.proofs.lemmas.List.{append_assoc, append-nil}
use Rattle.gc_graph.specs.declared.region.Entry.{Entry}
use Rattle.gc_graph.specs.History.{replayed, region_after}
use Rattle.gc_graph.specs.Outcomes.{took, with_entry}
use Rattle.gc_graph.specs.State.{State}

-- entries are taken piece after piece
pub took_append : (s : State) (xs ys : List Entry) → took s (xs ++ ys) ≡ took (took s xs) ys
took_append s [] ys = refl
took_append s (x ∷ xs) ys = took_append (with_entry s x) xs ys

-- entries that were taken change the region, what may be kept, and what is to be printed
pub took_is : (s : State) (es : List Entry)
    → took s es ≡ record s { region = replayed s.region es; may = (took s es).may; unprinted = s.unprinted ++ es }
took_is s [] = ap (λ u. record s { unprinted = u }) (sym (append-nil s.unprinted))
took_is s (e ∷ es) =
    took_is (with_entry s e) es
    ∙ ap (λ u. record s { region = replayed (region_after s.region e.op) es; may = (took (with_entry s e) es).may; unprinted = u })
    (append_assoc s.unprinted (e ∷ []) es)
