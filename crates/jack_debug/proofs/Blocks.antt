-- The rows of statements in a statement are what its vectors hold.
use Rattle.std.proofs.Common.{◌≡◌, ◌+◌, ◌≤◌, ◌<◌, ◌++◌, append-nil, append_assoc, ◌*◌, ℕ, zero, suc, List, [], ◌∷◌, length, length-append, get_or, Option, Some, None, refl, ap, sym, ◌∙◌, arith, Vec, Global}
use mathlib.Core.Former.{Count}
use Rattle.scan_text.specs.declared.Place.{Place}
use Rattle.jack_tree.specs.declared.tree.Expression.{Expression}
use Rattle.jack_tree.specs.declared.tree.Statement as statements
use Rattle.jack_tree.specs.Seen.{the_statement, the_row, the_statements}
use Rattle.jack_tree.specs.Syntax.{Next}
use Rattle.jack_debug.specs.Statements.{block_places, statement_places}

row_reads : {n : Count} (row : statements.Row_of-Statement n) → the_row row ≡ the_statements (statements.items-the_row-Statement n row)
row_reads statements.end_of-Statement = refl
row_reads (statements.more_of-Statement s rest) = ap (Next (the_statement s)) (row_reads rest)

abbrev first_row : statements.Statement → (n : Count) × statements.Row_of-Statement n
first_row (statements.While' at e _ row) = (_, row)
first_row (statements.If' at e _ row other) = (_, row)
first_row _ = (_, statements.end_of-Statement)

abbrev held : statements.Held-Statement-If-3 → (n : Count) × statements.Row_of-Statement n
held statements.None' = (_, statements.end_of-Statement)
held (statements.Some' _ row) = (_, row)

abbrev second_row : statements.Statement → (n : Count) × statements.Row_of-Statement n
second_row (statements.If' at e _ row other) = held other
second_row _ = (_, statements.end_of-Statement)

-- the places of the statements of a row
row_is : {n : Count} (row : statements.Row_of-Statement n) → block_places (the_row row) ≡ block_places (the_statements (statements.items-the_row-Statement n row))
row_is row = ap block_places (row_reads row)

pub while_places : (at : Place) (e : Expression) (body : Vec statements.Statement Global) → statement_places (the_statement (statements.While at e body)) ≡ at ∷ block_places (the_statements body.items)
while_places at e body =
    let row = first_row (statements.While at e body) in
    ap (λ (x : List Place). at ∷ x) (row_is row.1 ∙ ap (λ ss. block_places (the_statements ss)) (statements.items_hidden-the_row-Statement-0 body))

abbrev pub else_places : Option (Vec statements.Statement Global) → List Place
else_places None = []
else_places (Some v) = block_places (the_statements v.items)

pub if_places : (at : Place) (e : Expression) (a : Vec statements.Statement Global) (b : Option (Vec statements.Statement Global))
    → statement_places (the_statement (statements.If at e a b)) ≡ at ∷ (block_places (the_statements a.items) ++ else_places b)
if_places at e a None =
    let row = first_row (statements.If at e a None) in
    ap (λ (x : List Place). at ∷ x) (row_is row.1 ∙ ap (λ ss. block_places (the_statements ss)) (statements.items_hidden-the_row-Statement-0 a) ∙ sym (append-nil (block_places (the_statements a.items))))
if_places at e a (Some v) =
    let row = first_row (statements.If at e a (Some v)) in
    let other = second_row (statements.If at e a (Some v)) in
    let p = row_is row.1 ∙ ap (λ ss. block_places (the_statements ss)) (statements.items_hidden-the_row-Statement-0 a) in
    let q = row_is other.1 ∙ ap (λ ss. block_places (the_statements ss)) (statements.items_hidden-the_row-Statement-0 v) in
    λ i. at ∷ (p i ++ q i)

-- one statement has at most as many places as all
pub item_places : (ss : List statements.Statement) (i : ℕ) (s : statements.Statement) → i < length ss → s ≡ get_or ss i s
    → length (statement_places (the_statement s)) ≤ length (block_places (the_statements ss))
item_places [] i s h e = absurd (omega arith)
item_places (t ∷ ss) zero s h e =
    let both = length-append (statement_places (the_statement t)) (block_places (the_statements ss)) in
    let same = ap (λ (x : statements.Statement). length (statement_places (the_statement x))) e in
    omega arith
item_places (t ∷ ss) (suc i) s h e =
    let both = length-append (statement_places (the_statement t)) (block_places (the_statements ss)) in
    let ih = item_places ss i s (omega arith) e in
    omega arith

-- the parts of a statement have fewer places than it
pub front_less : (p : Place) (xs ys whole : List Place) → whole ≡ p ∷ (xs ++ ys) → 2 * length xs + 1 < 2 * length whole
front_less p xs ys whole e =
    let a = ap length e in
    let b = length-append xs ys in
    omega arith

pub back_less : (p : Place) (xs ys whole : List Place) → whole ≡ p ∷ (xs ++ ys) → 2 * length ys + 1 < 2 * length whole
back_less p xs ys whole e =
    let a = ap length e in
    let b = length-append xs ys in
    omega arith

-- a statement is added part by part
pub parts_added : (old first second all whole : List Place) (p : Place) (xs ys : List Place) → first ≡ old ++ p ∷ [] → second ≡ first ++ xs → all ≡ second ++ ys → whole ≡ p ∷ (xs ++ ys) → all ≡ old ++ whole
parts_added old first second all whole p xs ys e f g w =
    g ∙ ap (λ (z : List Place). z ++ ys) (f ∙ ap (λ (z : List Place). z ++ xs) e ∙ append_assoc old (p ∷ []) xs) ∙ append_assoc old (p ∷ xs) ys ∙ ap (λ (z : List Place). old ++ z) (sym w)
