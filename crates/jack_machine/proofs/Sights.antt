-- What a part makes of the last values.
use Rattle.std.proofs.Common.{◌≡◌, true, ℕ, ◌-◌, ◌≤◌, List, [], ◌∷◌, length, map, refl, sym, ap, ◌∙◌}
use Rattle.std.specs.Prelude.{slice_index}
use Rattle.jack_meaning.specs.Text.{Value, Open, More, Call}
use Rattle.jack_meaning.specs.Expressions.{View, Stands, Calls, within, rewrite, rewrite_first, values_of, loaded_word}
use Rattle.word16.specs.Words.{word_add}
use Rattle.jack_core.specs.declared.tree.Part.{Part}
use Rattle.jack_core.specs.declared.tree.Part.TheVariants as part
use Rattle.jack_core.specs.Reading.{make_expression, arguments_of}
use Rattle.jack_machine.specs.Looks.{passed_values, Sees, IsOfCall, Loads, is_of_load}
use Rattle.jack_machine.specs.declared.looking.Sight.{Sight}
use Rattle.jack_machine.proofs.Lists.{last_two}

pub sees_load : (v : View) (ws : List ℕ) (a : ℕ) (sight : Sight) → 2 ≤ length ws → a ≡ word_add (slice_index ws (length ws - 2)) (slice_index ws (length ws - 1)) → Loads v a sight
    → Sees v part.Load ws sight
sees_load v ws a sight h e l = ap (λ l. rewrite v (make_expression part.Load (map Value l))) (last_two ws h) ∙ ap (loaded_word v) (sym e) ∙ l.move (passed_values part.Load ws)

values_stand : (v : View) (xs : List ℕ) → rewrite_first v (arguments_of (map Value xs)) ≡ Stands
values_stand v [] = refl
values_stand v (x ∷ xs) = ap (λ m. within m (More (Value x)) Stands) (values_stand v xs)

same_values : (xs : List ℕ) → values_of (arguments_of (map Value xs)) ≡ xs
same_values [] = refl
same_values (x ∷ xs) = ap (λ l. x ∷ l) (same_values xs)

pub sees_call : (v : View) (g n : ℕ) (ws : List ℕ) → Sees v (part.Call n g) ws (Sight.Calls g)
sees_call v g n ws =
    let xs : List ℕ = passed_values (part.Call n g) ws in
    ap (λ m. within m (Call g) (Calls g (values_of (arguments_of (map Value xs))) Open)) (values_stand v xs) ∙ ap (λ l. Calls g l Open) (same_values xs)

pub no_call : (p : Part) (sight : Sight) → is_of_load sight ≡ true → IsOfCall p sight
no_call p (Sight.Puts w) h = tt
no_call p Sight.Hears h = tt
no_call p (Sight.Calls g) h = cc
no_call p (Sight.Strays a) h = tt
