-- The rest of a text and the rows after what comes first.
use Rattle.std.proofs.Common.{◌≡◌, ℕ, zero, suc, ◌+◌, Bool, false, List, if◌then◌else◌, refl, sym, ap, ◌∙◌, rules}
use Rattle.std.specs.Prelude.{nat_eq}
use Rattle.std.proofs.Math.Numerals.{add-one}
use Rattle.jack_meaning.specs.Text.{If, While, Text, End, Next, joined_text}
use Rattle.jack_meaning.specs.Text.{Expression as AnExpression, Statement as AStatement}
use Rattle.jack_meaning.specs.Meaning.{text_chosen, turn_of}
use Rattle.jack_core.specs.Reading.{the_expression}
use Rattle.jack_core.specs.Texts.{the_statement, the_block}
use Rattle.jack_core.specs.declared.tree.Expression.{Expression}
use Rattle.jack_core.specs.declared.program.Statement.{Statement}
use Rattle.jack_core.specs.declared.program.Statement.TheVariants as Statement
use Rattle.jack_core.proofs.Blocks.{if_reads, while_reads}
use Rattle.std.specs.declared.vec.Vec.{Vec}
use Rattle.std.specs.declared.alloc.Global.{Global}
use Rattle.jack_machine.specs.Texts.{written_statement, written_first, begun_text, chosen_text}
use Rattle.jack_machine.specs.declared.fronts.First.{First}

pub joined_end : (t : Text) → joined_text t End ≡ t
joined_end End = refl
joined_end (Next s t) = ap (Next s) (joined_end t)

pub joined_twice : (s t u : Text) → joined_text (joined_text s t) u ≡ joined_text s (joined_text t u)
joined_twice End t u = refl
joined_twice (Next x s) t u = ap (Next x) (joined_twice s t u)

-- the branch of a value
pub branch_is : (w : ℕ) (a b : List Statement) → the_block (if nat_eq w 0 then b else a) ≡ text_chosen w (the_block a) (the_block b)
branch_is zero a b = refl
branch_is (suc w) a b = let more : nat_eq (suc w) 0 ≡ false = search rules in rw more refl

-- the texts that choices are written as
pub if_written : (n : ℕ) (o : Bool) (c : Expression) (a b : Vec Statement Global) (es : List AnExpression) (w : ℕ) (rest : Text)
    → chosen_text w (Next (written_statement (Statement.If n o c a b) es) rest) ≡ joined_text (text_chosen w (the_block a.items) (the_block b.items)) rest
if_written n o c a b es w rest = ap (λ t. joined_text (branch t) rest) (if_reads n o c a b)
  where
    branch : AStatement → Text
    branch (If m o d x y) = text_chosen w x y
    branch _ = End

loop_turns : (n : ℕ) (c : Expression) (s : Vec Statement Global) (es : List AnExpression) (w : ℕ) (rest : Text)
    → chosen_text (suc w) (Next (written_statement (Statement.While n c s) es) rest) ≡ joined_text (the_block s.items) (Next (the_statement (Statement.While n c s)) rest)
loop_turns n c s es w rest =
    ap (λ t. joined_text (turn t) rest) (while_reads n c s) ∙ joined_twice (the_block s.items) (Next (While n (the_expression c) (the_block s.items)) End) rest
    ∙ ap (λ t. joined_text (the_block s.items) (Next t rest)) (sym (while_reads n c s))
  where
    turn : AStatement → Text
    turn (While m d x) = turn_of m d x
    turn _ = End

pub loop_written : (n : ℕ) (c : Expression) (s : Vec Statement Global) (es : List AnExpression) (w : ℕ) (rest : Text) → (w ≡ 0 → ⊥)
    → chosen_text w (Next (written_statement (Statement.While n c s) es) rest) ≡ joined_text (the_block s.items) (Next (the_statement (Statement.While n c s)) rest)
loop_written n c s es zero rest h = absurd (h refl)
loop_written n c s es (suc w) rest h = loop_turns n c s es w rest

-- what is begun is written so
pub begun_more : (first : First) (done : ℕ) (es : List AnExpression) (rest : Text) → begun_text first (done + 1) es rest ≡ written_first first es rest
begun_more first done es rest = ap (λ n. begun_text first n es rest) (add-one done) ∙ more first
  where
    more : (f : First) → begun_text f (suc done) es rest ≡ written_first f es rest
    more (First.Start init) = refl
    more (First.Statement s) = refl
    more First.Nothing = refl
