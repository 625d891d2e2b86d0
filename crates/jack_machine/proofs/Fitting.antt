-- The front of a text: what is left finds its operands, as far as it is done.
use Rattle.std.proofs.Common.{◌≡◌, ℕ, ◌+◌, ◌-◌, ◌≤◌, List, [], ◌∷◌, ◌++◌, Some, None, length, drop, map, reverse, refl, sym, ap, ◌∙◌, arith}
use Rattle.std.specs.Prelude.{slice_get}
use Rattle.std.proofs.Math.Numerals.{add-one}
use Rattle.std.proofs.lemmas.List.{map-append, reverse-append, reverse-reverse, take-append-drop, take_at, drop_at, length-append, length-drop, length-take-le, length-reverse, length-map}
use Rattle.jack_meaning.specs.Text.{Value}
use Rattle.jack_core.specs.declared.tree.Part.{Part}
use Rattle.jack_core.specs.declared.tree.Expression.{Expression}
use Rattle.jack_core.specs.declared.program.Statement.{Statement, If', While'}
use Rattle.jack_core.specs.Heights.{takes, height}
use Rattle.jack_core.specs.Reading.{make_expression, put}
use Rattle.jack_core.proofs.Postfix.{some_is, enough, behind, height_more, height_over}
use Rattle.jack_machine.specs.Looks.{passed_values, spared_values}
use Rattle.jack_machine.specs.Parts.{parts_in, parts_of, wanted_in, wanted_count}
use Rattle.jack_machine.specs.declared.fronts.First.{First}
use Rattle.jack_machine.specs.declared.fronts.Front.{Front}
use Rattle.jack_machine.proofs.Lists.{map-reverse, drop_found, drop_none}

-- the parts of a statement of which nothing is done leave what it wants
three : (a i e : Expression) → height 0 (a.parts ++ i.parts ++ e.parts) ≡ Some 3
three a i e =
    let both : height 0 (a.parts ++ i.parts) ≡ Some 2 = height_more 0 1 a.parts i.parts a.one ∙ height_over 1 1 i.parts i.one in
    height_more 0 2 (a.parts ++ i.parts) e.parts both ∙ height_over 2 1 e.parts e.one

statement_fits : (s : Statement) → height 0 (parts_in s) ≡ Some (wanted_in s)
statement_fits (Statement.Let n x e) = e.one
statement_fits (Statement.LetField n k e) = e.one
statement_fits (Statement.LetThis n e) = e.one
statement_fits (Statement.Store n a i e) = three a i e
statement_fits (Statement.Do n e) = e.one
statement_fits (If' n o c p a q b) = c.one
statement_fits (While' n c p s) = c.one
statement_fits (Statement.Return n e) = e.one

pub fresh_fits : (first : First) → height 0 (parts_of first) ≡ Some (wanted_count first)
fresh_fits (First.Start init) = refl
fresh_fits (First.Statement s) = statement_fits s.now
fresh_fits First.Nothing = refl

-- where nothing is done no value stands
pub none_stand : (h : ℕ) (first : First) → height h (parts_of first) ≡ Some (wanted_count first) → h ≡ 0
none_stand h first e = let all : h + wanted_count first ≡ wanted_count first = some_is (sym (height_over h (wanted_count first) (parts_of first) (fresh_fits first)) ∙ e) in omega (arith, all)

-- the part that is next, and those after it
module _ (f : Front) (p : Part) (next : slice_get (parts_of f.first) f.done ≡ Some p) where
  pub next_is : drop f.done (parts_of f.first) ≡ p ∷ drop (f.done + 1) (parts_of f.first)
  next_is = drop_found (parts_of f.first) f.done p next ∙ ap (λ n. p ∷ drop n (parts_of f.first)) (sym (add-one f.done))

  fits_next : height (length f.values.items) (p ∷ drop (f.done + 1) (parts_of f.first)) ≡ Some (wanted_count f.first)
  fits_next = ap (height (length f.values.items)) (sym next_is) ∙ f.fits

  pub has_operands : takes p ≤ length f.values.items
  has_operands = enough (length f.values.items) (wanted_count f.first) p (drop (f.done + 1) (parts_of f.first)) fits_next

  pub fits_behind : height (length f.values.items - takes p + 1) (drop (f.done + 1) (parts_of f.first)) ≡ Some (wanted_count f.first)
  fits_behind = behind (length f.values.items) (wanted_count f.first) p (drop (f.done + 1) (parts_of f.first)) fits_next

-- no part is left
pub all_done : (f : Front) → slice_get (parts_of f.first) f.done ≡ None → drop f.done (parts_of f.first) ≡ []
all_done f e = drop_none (parts_of f.first) f.done e

pub all_wanted : (f : Front) → slice_get (parts_of f.first) f.done ≡ None → length f.values.items ≡ wanted_count f.first
all_wanted f e = some_is (ap (height (length f.values.items)) (sym (all_done f e)) ∙ f.fits)

-- the length of what a part leaves of the values, and its own one
pub spared_length : (p : Part) (ws : List ℕ) → takes p ≤ length ws → length (spared_values p ws) ≡ length ws - takes p
spared_length p ws le = let less : length ws - takes p ≤ length ws = omega arith in length-take-le (length ws - takes p) ws less

pub put_size : (p : Part) (w : ℕ) (ws : List ℕ) → takes p ≤ length ws → length (spared_values p ws ++ w ∷ []) ≡ length ws - takes p + 1
put_size p w ws le = length-append (spared_values p ws) (w ∷ []) ∙ ap (λ n. n + 1) (spared_length p ws le)

-- a part over values, the last of which comes first
pub put_values : (p : Part) (ws : List ℕ) → takes p ≤ length ws → put p (map Value (reverse ws)) ≡ make_expression p (map Value (passed_values p ws)) ∷ map Value (reverse (spared_values p ws))
put_values p ws le =
    let low : List ℕ = spared_values p ws in
    let high : List ℕ = passed_values p ws in
    let size : length (map Value (reverse high)) ≡ takes p = omega (arith, le, length-map (reverse high) Value, length-reverse high, length-drop (length ws - takes p) ws) in
    let split : map Value (reverse ws) ≡ map Value (reverse high) ++ map Value (reverse low) =
    ap (λ l. map Value (reverse l)) (sym (take-append-drop (length ws - takes p) ws)) ∙ ap (map Value) (reverse-append low high) ∙ map-append Value (reverse high) (reverse low) in
    let back : reverse (map Value (reverse high)) ≡ map Value high =
    sym (map-reverse Value (reverse high)) ∙ ap (map Value) (reverse-reverse high) in
    ap (put p) split
    ∙ ap (λ l. make_expression p (reverse l) ∷ drop (takes p) (map Value (reverse high) ++ map Value (reverse low))) (take_at (map Value (reverse high)) (map Value (reverse low)) (takes p) size)
    ∙ ap (λ l. make_expression p l ∷ drop (takes p) (map Value (reverse high) ++ map Value (reverse low))) back
    ∙ ap (λ l. make_expression p (map Value high) ∷ l) (drop_at (map Value (reverse high)) (map Value (reverse low)) (takes p) size)
