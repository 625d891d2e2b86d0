-- With one name more there are fewer chips that have none of the names.
use Rattle.std.proofs.Common.{◌≡◌, ℕ, ◌+◌, ◌<◌, ◌≤◌, Bool, true, false, cond, List, [], ◌∷◌, length, Option, Some, refl, sym, ap, subst, ◌∙◌, arith}
use Rattle.std.specs.Prelude.{◌||◌}
use Rattle.std.specs.Str.{bytes_eq}
use Rattle.std.specs.Cmp.Lexicographic.{bytes_decides}
use Rattle.hdl_tree.specs.declared.library.Entry.{Entry}
use Rattle.hdl_tree.specs.Chips.{find_entry}
use Rattle.hdl_tree.specs.Writable.{is_among}

-- how many chips have none of these names
pub left : List (List ℕ) → List Entry → ℕ
left names [] = 0
left names (e ∷ es) = cond (is_among e.name names) 0 1 + left names es

less_by : (c b : Bool) → cond (c || b) 0 1 ≤ cond b 0 1
less_by true true = omega arith
less_by true false = omega arith
less_by false true = omega arith
less_by false false = omega arith

left_le : (x : List ℕ) (names : List (List ℕ)) (es : List Entry) → left (x ∷ names) es ≤ left names es
unfolding left
left_le x names [] = omega arith
left_le x names (e ∷ es) = omega (arith, less_by (bytes_eq e.name x) (is_among e.name names), left_le x names es)

head_less : (e : Entry) (names : List (List ℕ)) → is_among e.name names ≡ false → cond (is_among e.name (e.name ∷ names)) 0 1 + 1 ≡ cond (is_among e.name names) 0 1
head_less e names h =
    ap (λ (b : Bool). cond (b || is_among e.name names) 0 1 + 1) ((bytes_decides e.name e.name).1 refl) ∙ sym (ap (λ (b : Bool). cond b 0 1) h)

less_here : (e x : Entry) (es : List Entry) (names : List (List ℕ)) (b : Bool) (o : Option Entry) → cond b (Some x) o ≡ Some e → (o ≡ Some e → left (e.name ∷ names) es < left names es) → is_among e.name names ≡ false → left (e.name ∷ names) (x ∷ es) < left names (x ∷ es)
unfolding left
less_here e x es names true o h go new =
    let same : x ≡ e = cc in
    subst (λ (y : Entry). cond (is_among y.name (e.name ∷ names)) 0 1 + left (e.name ∷ names) es < cond (is_among y.name names) 0 1 + left names es) (sym same)
    (omega (arith, head_less e names new, left_le e.name names es))
less_here e x es names false o h go new = omega (arith, less_by (bytes_eq x.name e.name) (is_among x.name names), go h)

pub left_less : (es : List Entry) (name : List ℕ) (e : Entry) (names : List (List ℕ)) → find_entry es name ≡ Some e → is_among e.name names ≡ false → left (e.name ∷ names) es < left names es
left_less [] name e names h new = absurd cc
left_less (x ∷ xs) name e names h new = less_here e x xs names (bytes_eq name x.name) (find_entry xs name) h (λ g. left_less xs name e names g new) new

pub left_all : (es : List Entry) → left [] es ≡ length es
unfolding left
left_all [] = refl
left_all (e ∷ es) = let h = left_all es in omega (arith, h)
