-- The cases of a step: what each form of answer can be.
use Rattle.std.proofs.Common.{Bool, true, false, Option, Some, None}
use Rattle.std.specs.Option.{MatchOption}
use Rattle.std.specs.Bool.{MatchBool}

pub match_option : {T : Type 0} (o : Option T) (A : Type 0) (B : T → Type 0) (Q : Type 0) → (A → Q) → ((n : T) → B n → Q) → MatchOption o A B → Q
match_option None A B Q a b m = a m
match_option (Some n) A B Q a b m = b n m

pub match_bool : (o : Bool) (A B Q : Type 0) → (A → Q) → (B → Q) → MatchBool o A B → Q
match_bool true A B Q a b m = a m
match_bool false A B Q a b m = b m
