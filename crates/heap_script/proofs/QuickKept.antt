-- Lines that are kept without the table of forms.
use Rattle.std.proofs.Common.{◌≡◌, ℕ, ◌==◌, true, false, Result, Ok, Err, IfOk, Some, List, [], ◌∷◌, length, refl, sym, ap, inr, arith}
use Rattle.std.specs.Prelude.{is_some}
use Rattle.std.proofs.lemmas.Bool.{true≢false, ne_eqb}
use Rattle.gc_graph.specs.declared.command.Command.{Command}
use Rattle.gc_graph.specs.declared.command.Command.TheVariants as C
use Rattle.gc_graph.specs.Reasons.{command_of_words}
use Rattle.command_text.specs.declared.quick_lines.QuickLine.{QuickLine}
use Rattle.command_text.specs.QuickLines.{is_frequent, IsQuickLine}
use Rattle.heap_script.specs.declared.script_lines.Kept.{Kept}
use Rattle.heap_script.specs.Past.{bounds_in, IsCommandAdded, IsLineRead, IsPlain}
use Rattle.heap_script.proofs.LineReasons.{command_fine}

-- a frequent command is no thread's order
pub frequent_plain : (command : Command) → is_frequent command ≡ true → IsPlain command
frequent_plain (C.New p t e) is = record { timely = λ stage. refl; stays = λ stage. refl }
frequent_plain (C.SetNull p f) is = record { timely = λ stage. refl; stays = λ stage. refl }
frequent_plain (C.Set p f q) is = record { timely = λ stage. refl; stays = λ stage. refl }
frequent_plain (C.Put p f n) is = record { timely = λ stage. refl; stays = λ stage. refl }
frequent_plain (C.Word p f) is = record { timely = λ stage. refl; stays = λ stage. refl }
frequent_plain (C.Get p f q) is = record { timely = λ stage. refl; stays = λ stage. refl }
frequent_plain (C.Copy p q) is = record { timely = λ stage. refl; stays = λ stage. refl }
frequent_plain (C.Drop p) is = record { timely = λ stage. refl; stays = λ stage. refl }
frequent_plain (C.Weak w p) is = record { timely = λ stage. refl; stays = λ stage. refl }
frequent_plain (C.Read w p) is = record { timely = λ stage. refl; stays = λ stage. refl }
frequent_plain command is = absurd (true≢false (sym is))

some_words : (words : List (List ℕ)) (command : Command) → command_of_words words ≡ Some command → (length words == 0) ≡ false
some_words [] command says = absurd (true≢false (sym (ap is_some says)))
some_words (word ∷ words) command says = ne_eqb (length (word ∷ words)) 0 (λ e. omega (arith, e))

quick_read : (callbacks : ℕ) (words : List (List ℕ)) (bytes : List ℕ) (at : ℕ) (line : QuickLine) (old new : Kept)
    → IsQuickLine (bounds_in callbacks old.past) words bytes at line → IsCommandAdded line.command old new → IsLineRead callbacks words old new
quick_read callbacks words bytes at line old new quick added = inr (record {
  some = some_words words line.command quick.says;
  fine = command_fine callbacks old.past words line.command quick.says quick.fine quick.type_free ((frequent_plain line.command quick.frequent).timely old.past.stage);
  kept = inr (record {
    command = line.command;
    says = quick.says;
    plain = quick.type_free;
    past = added.past;
    types = added.types;
    commands = added.commands;
  });
})

-- where memory was not wanting, the line was read
pub quick_kept : (callbacks : ℕ) (words : List (List ℕ)) (bytes : List ℕ) (at : ℕ) (line : QuickLine) (old new : Kept) (result : Result ℕ ℕ)
    → IsQuickLine (bounds_in callbacks old.past) words bytes at line → IfOk result (λ _. IsCommandAdded line.command old new)
    → IfOk result (λ _. IsLineRead callbacks words old new)
quick_kept callbacks words bytes at line old new (Ok end) quick added = quick_read callbacks words bytes at line old new quick added
quick_kept callbacks words bytes at line old new (Err reason) quick added = added
