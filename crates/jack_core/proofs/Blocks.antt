-- The rows of statements in a statement are what its vectors hold.
use Rattle.std.proofs.Common.{◌≡◌, ℕ, Bool, refl, ap, ◌∙◌}
use Rattle.jack_meaning.specs.Text.{If, While, Next}
use Rattle.jack_core.specs.Reading.{the_expression}
use Rattle.jack_core.specs.Texts.{the_statement, the_row, the_block}
use Rattle.jack_core.specs.declared.tree.Expression.{Expression}
use Rattle.jack_core.specs.declared.program.Statement.{Statement, If', While', Row_of-Statement, end_of-Statement, more_of-Statement, items-the_row-Statement, items_hidden-the_row-Statement-0}
use Rattle.jack_core.specs.declared.program.Statement.TheVariants as Statement
use mathlib.Core.Former.{Count}
use Rattle.std.specs.declared.vec.Vec.{Vec}
use Rattle.std.specs.declared.alloc.Global.{Global}

row_reads : {n : Count} (row : Row_of-Statement n) → the_row row ≡ the_block (items-the_row-Statement n row)
row_reads end_of-Statement = refl
row_reads (more_of-Statement s rest) = ap (Next (the_statement s)) (row_reads rest)

abbrev first_row : Statement → (n : Count) × Row_of-Statement n
first_row (If' n o c p a q b) = (_, a)
first_row (While' n c p s) = (_, s)
first_row _ = (_, end_of-Statement)

abbrev second_row : Statement → (n : Count) × Row_of-Statement n
second_row (If' n o c p a q b) = (_, b)
second_row _ = (_, end_of-Statement)

pub if_reads : (n : ℕ) (o : Bool) (c : Expression) (a b : Vec Statement Global) → the_statement (Statement.If n o c a b) ≡ If n o (the_expression c) (the_block a.items) (the_block b.items)
if_reads n o c a b =
    ap (λ x. If n o (the_expression c) x (the_row (second_row (Statement.If n o c a b)).1)) (row_reads (first_row (Statement.If n o c a b)).1 ∙ ap the_block (items_hidden-the_row-Statement-0 a))
    ∙ ap (If n o (the_expression c) (the_block a.items)) (row_reads (second_row (Statement.If n o c a b)).1 ∙ ap the_block (items_hidden-the_row-Statement-0 b))

pub while_reads : (n : ℕ) (c : Expression) (s : Vec Statement Global) → the_statement (Statement.While n c s) ≡ While n (the_expression c) (the_block s.items)
while_reads n c s = ap (While n (the_expression c)) (row_reads (first_row (Statement.While n c s)).1 ∙ ap the_block (items_hidden-the_row-Statement-0 s))
