-- The rows of arguments and statements in trees mean what their vectors hold.
use Rattle.std.specs.Prelude.{is_some}
use Rattle.std.proofs.Common.{◌≡◌, ℕ, true, false, zero, suc, ◌+◌, ◌<◌, ◌≤◌, List, [], ◌∷◌, ◌++◌, length, take, get_or, Option, Some, None, refl, sym, ap, ◌∙◌, arith, Vec, Global}
use Rattle.jack_meaning.specs.Text as meaning
use Rattle.scan_text.specs.declared.Place.{Place}
use Rattle.std.proofs.lemmas.List.{take_more}
use Rattle.jack_tree.specs.declared.tree.Operation.{Operation}
use Rattle.jack_tree.specs.declared.tree.Call.{Call, Call', out-Call, outs-Call', Row_of-Expression, end_of-Expression, more_of-Expression, items-the_row-Expression, items_shown-the_row-Expression-0}
use Rattle.jack_tree.specs.declared.tree.Expression.{Expression, Expression', out-Expression, outs-Expression', Row_of-Operation, end_of-Operation, more_of-Operation, items-the_row-Operation, items_shown-the_row-Operation-1}
use Rattle.jack_tree.specs.declared.tree.Statement as statements
use Rattle.jack_names.specs.Inner.Scopes.{Scope}
use Rattle.jack_names.specs.Sizes.{size, row_size, sizes, else_size}
use Rattle.jack_names.specs.Made.{filled_characters, two}
use Rattle.jack_names.specs.Inner.Meant.{binary_meant, term_meant, exp_meant, rest_meant, row_meant, operation_meant, grouped_operations, arguments_meant, invocation, call_meant, statement_meant, block_meant, statements_meant, else_meant}
use Rattle.jack_names.proofs.Rows.{OneCall, OneExpression, first_row, second_row}

row_means : (s : Scope) (n : _) (row : Row_of-Expression n) → row_meant s row ≡ arguments_meant s (items-the_row-Expression n row)
row_means s n end_of-Expression = refl
row_means s n (more_of-Expression e es) = ap (λ (x : meaning.Expressions). meaning.More (exp_meant s e) x) (row_means s _ es)

abbrev meant_by : Scope → OneCall → meaning.Expression
meant_by s c = invocation s c.object c.name (arguments_meant s c.arguments.items)

-- a call, by its parts
pub call_means : (s : Scope) (c : Call) → call_meant s c ≡ invocation s (out-Call c).object (out-Call c).name (arguments_meant s (out-Call c).arguments.items)
call_means s (Call' o f p es) =
    ap (λ (x : meaning.Expressions). invocation s o f x) (row_means s _ es ∙ ap (arguments_meant s) (sym (items_shown-the_row-Expression-0 p es)))
    ∙ ap (meant_by s) (sym (outs-Call' o f p es))

rest_means : (s : Scope) (a : meaning.Expression) (n : _) (row : Row_of-Operation n) → rest_meant s a row ≡ grouped_operations s a (items-the_row-Operation n row)
rest_means s a n end_of-Operation = refl
rest_means s a n (more_of-Operation o at t os) = rest_means s (binary_meant s o a (term_meant s t)) _ os

abbrev grouped_by : Scope → OneExpression → meaning.Expression
grouped_by s e = grouped_operations s (term_meant s e.first) e.rest.items

-- an expression, by its parts
pub exp_means : (s : Scope) (e : Expression) → exp_meant s e ≡ grouped_operations s (term_meant s (out-Expression e).first) (out-Expression e).rest.items
exp_means s (Expression' t p os) =
    rest_means s (term_meant s t) _ os ∙ ap (grouped_operations s (term_meant s t)) (sym (items_shown-the_row-Operation-1 p os))
    ∙ ap (grouped_by s) (sym (outs-Expression' t p os))

grouped-push : (s : Scope) (a : meaning.Expression) (os : List Operation) (o : Operation) → grouped_operations s a (os ++ o ∷ []) ≡ operation_meant s (grouped_operations s a os) o
grouped-push s a [] o = refl
grouped-push s a (p ∷ os) o = grouped-push s (operation_meant s a p) os o

-- one operator and term more
pub grouped_more : (s : Scope) (a : meaning.Expression) (os : List Operation) (i : ℕ) (o : Operation) → i < length os → o ≡ get_or os i o → grouped_operations s a (take (i + 1) os) ≡ operation_meant s (grouped_operations s a (take i os)) o
grouped_more s a os i o h w = ap (grouped_operations s a) (take_more os i o h ∙ ap (λ (x : Operation). take i os ++ x ∷ []) (sym w)) ∙ grouped-push s a (take i os) o

-- one byte more
filled-push : (append : ℕ) (e : meaning.Expression) (bs : List ℕ) (b : ℕ) → filled_characters append e (bs ++ b ∷ []) ≡ meaning.Call append (two (filled_characters append e bs) (meaning.Literal b))
filled-push append e [] b = refl
filled-push append e (x ∷ bs) b = filled-push append (meaning.Call append (two e (meaning.Literal x))) bs b

pub filled_more : (append : ℕ) (e : meaning.Expression) (bs : List ℕ) (i : ℕ) → i < length bs → filled_characters append e (take (i + 1) bs) ≡ meaning.Call append (two (filled_characters append e (take i bs)) (meaning.Literal (get_or bs i 0)))
filled_more append e bs i h = ap (filled_characters append e) (take_more bs i 0 h) ∙ filled-push append e (take i bs) (get_or bs i 0)

block_means : (s : Scope) (k : ℕ) (n : _) (row : statements.Row_of-Statement n) → block_meant s k row ≡ meaning.text_of (statements_meant s k (statements.items-the_row-Statement n row))
block_means s k n statements.end_of-Statement = refl
block_means s k n (statements.more_of-Statement t ts) = ap (λ (x : meaning.Text). meaning.Next (statement_meant s k t) x) (block_means s (k + size t) _ ts)

row_counts : (n : _) (row : statements.Row_of-Statement n) → row_size row ≡ sizes (statements.items-the_row-Statement n row)
row_counts n statements.end_of-Statement = refl
row_counts n (statements.more_of-Statement t ts) = ap (λ (x : ℕ). size t + x) (row_counts _ ts)

abbrev block : Scope → ℕ → List statements.Statement → meaning.Text
block s k ss = meaning.text_of (statements_meant s k ss)

pub while_means : (s : Scope) (k : ℕ) (at : Place) (e : Expression) (a : Vec statements.Statement Global) → statement_meant s k (statements.While at e a) ≡ meaning.While k (exp_meant s e) (meaning.text_of (statements_meant s (k + 1) a.items))
while_means s k at e a =
    let row = first_row (statements.While at e a) in
    ap (λ (x : meaning.Text). meaning.While k (exp_meant s e) x) (block_means s (k + 1) row.0 row.1 ∙ ap (block s (k + 1)) (statements.items_hidden-the_row-Statement-0 a))

pub while_counts : (at : Place) (e : Expression) (a : Vec statements.Statement Global) → size (statements.While at e a) ≡ 1 + sizes a.items
while_counts at e a =
    let row = first_row (statements.While at e a) in
    ap (λ (x : ℕ). 1 + x) (row_counts row.0 row.1 ∙ ap sizes (statements.items_hidden-the_row-Statement-0 a))

pub if_counts : (at : Place) (e : Expression) (a : Vec statements.Statement Global) (b : Option (Vec statements.Statement Global)) → size (statements.If at e a b) ≡ 1 + sizes a.items + else_size b
if_counts at e a None =
    let row = first_row (statements.If at e a None) in
    ap (λ (x : ℕ). 1 + x + 0) (row_counts row.0 row.1 ∙ ap sizes (statements.items_hidden-the_row-Statement-0 a))
if_counts at e a (Some v) =
    let row = first_row (statements.If at e a (Some v)) in
    let other = second_row (statements.If at e a (Some v)) in
    let p = row_counts row.0 row.1 ∙ ap sizes (statements.items_hidden-the_row-Statement-0 a) in
    let q = row_counts other.0 other.1 ∙ ap sizes (statements.items_hidden-the_row-Statement-0 v) in
    λ i. 1 + p i + q i

pub if_means : (s : Scope) (k : ℕ) (at : Place) (e : Expression) (a : Vec statements.Statement Global) (b : Option (Vec statements.Statement Global)) → statement_meant s k (statements.If at e a b) ≡ meaning.If k (is_some b) (exp_meant s e) (meaning.text_of (statements_meant s (k + 1) a.items)) (else_meant s (k + 1 + sizes a.items) b)
if_means s k at e a None =
    let row = first_row (statements.If at e a None) in
    ap (λ (x : meaning.Text). meaning.If k false (exp_meant s e) x meaning.End) (block_means s (k + 1) row.0 row.1 ∙ ap (block s (k + 1)) (statements.items_hidden-the_row-Statement-0 a))
if_means s k at e a (Some v) =
    let row = first_row (statements.If at e a (Some v)) in
    let other = second_row (statements.If at e a (Some v)) in
    let p = block_means s (k + 1) row.0 row.1 ∙ ap (block s (k + 1)) (statements.items_hidden-the_row-Statement-0 a) in
    let n = row_counts row.0 row.1 ∙ ap sizes (statements.items_hidden-the_row-Statement-0 a) in
    let q = block_means s (k + 1 + row_size row.1) other.0 other.1 ∙ ap (block s (k + 1 + row_size row.1)) (statements.items_hidden-the_row-Statement-0 v) ∙ ap (λ (m : ℕ). block s (k + 1 + m) v.items) n in
    λ i. meaning.If k true (exp_meant s e) (p i) (q i)

-- one statement more
pub statements_meant-push : (s : Scope) (k : ℕ) (ss : List statements.Statement) (t : statements.Statement) → statements_meant s k (ss ++ t ∷ []) ≡ statements_meant s k ss ++ statement_meant s (k + sizes ss) t ∷ []
statements_meant-push s k [] t = let e : k ≡ k + 0 = omega arith in ap (λ (n : ℕ). statement_meant s n t ∷ []) e
statements_meant-push s k (r ∷ ss) t =
    let e : k + size r + sizes ss ≡ k + (size r + sizes ss) = omega arith in
    ap (λ (x : List meaning.Statement). statement_meant s k r ∷ x) (statements_meant-push s (k + size r) ss t ∙ ap (λ (n : ℕ). statements_meant s (k + size r) ss ++ statement_meant s n t ∷ []) e)

pub sizes-push : (ss : List statements.Statement) (t : statements.Statement) → sizes (ss ++ t ∷ []) ≡ sizes ss + size t
sizes-push [] t = omega arith
sizes-push (r ∷ ss) t = ap (λ (n : ℕ). size r + n) (sizes-push ss t) ∙ omega arith

pub sizes_from : (ss : List statements.Statement) (i : ℕ) (t : statements.Statement) → i < length ss → t ≡ get_or ss i t → sizes (take i ss) + size t ≤ sizes ss
sizes_from [] i t h e = absurd (omega (arith, h))
sizes_from (r ∷ ss) zero t h e = let k : size t ≡ size r = ap size e in omega (arith, k)
sizes_from (r ∷ ss) (suc i) t h e = omega (arith, sizes_from ss i t (omega (arith, h)) e)
