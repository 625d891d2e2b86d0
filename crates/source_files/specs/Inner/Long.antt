-- A text of more than 1,048,576 bytes is cut into no tokens, and so each grammar refuses it, without a place: what an `impl Language` shows.
use Rattle.std.specs.Prelude.{◌<◌, ℕ, Bool, cond, List, Result, Err, length, nat_lt}
use Rattle.std.proofs.Common.{ap, inl}
use Rattle.std.proofs.lemmas.Bool.{lt-ltb}
use Rattle.grammar.specs.Cutting.{too_long}
use Rattle.grammar.specs.Rules.{Rule, Rules}
use Rattle.grammar.specs.Texts.{Refused}
use Rattle.grammar.specs.declared.Fault.{Fault}

pub refused_long : {T S N V : Type 0} (g : Rules T S N V) (rule : Rule T S N V) (s : S) (cut : Result (List T) Fault) (text : List ℕ)
    → 1048576 < length text → Refused g rule s (cond (nat_lt 1048576 (length text)) (Err too_long) cut) too_long
refused_long g rule s cut text long = inl (ap (λ (b : Bool). cond b (Err too_long) cut) (lt-ltb 1048576 (length text) long))
