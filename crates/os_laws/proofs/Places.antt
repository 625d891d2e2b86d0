-- Names of subroutines, numbers, and the program's list.
use Rattle.std.proofs.Common.{◌≡◌, ℕ, suc, ◌+◌, true, false, List, [], ◌∷◌, ◌++◌, map, length, get_or, Some, ap, ◌∙◌, arith, get_or-append-add, append_assoc}
use Rattle.std.specs.Prelude.{slice_get, if◌then◌else◌}
use Rattle.std.specs.Str.{bytes_eq}
use Rattle.std.proofs.lemmas.List.{length-map, get_or_at, map-append}
use Rattle.std.specs.List.{AllByRecursion}
use Rattle.jack_meaning.specs.Text as meaning
use Rattle.jack_meaning.specs.Meaning.{subroutine_at}
use Rattle.jack_tree.specs.Syntax as tree
use Rattle.name_table.specs.Names.{find_value}
use Rattle.jack_names.specs.Numbers.{standing, subroutine_numbers, all_subroutine_numbers, subroutine_number, number, found_in, field_count, static_count}
use Rattle.jack_names.specs.Meaning.{subroutine_meaning, subroutines_meaning, no_subroutine, meaning_of}
use Rattle.os_laws.specs.Names.{statics_in}

-- how many subroutines these classes have
abbrev subroutines_in : List tree.ClassFile → ℕ
subroutines_in [] = 0
subroutines_in (c ∷ cs) = length c.class.subroutines + subroutines_in cs

-- none of these subroutines has this name
abbrev pub NoneNamed : List ℕ → List tree.Subroutine → Type 0
NoneNamed x ss = AllByRecursion (λ s. bytes_eq x s.name.text ≡ false) ss

-- the numbers of a class's subroutines
class_place : (n : ℕ) (front back : List tree.ClassFile) (c : tree.ClassFile) → slice_get (all_subroutine_numbers n (front ++ c ∷ back)) (length front) ≡ Some (subroutine_numbers (n + subroutines_in front) c.class.subroutines)
class_place n [] back c = ap (λ k. Some (subroutine_numbers k c.class.subroutines)) (let e : n ≡ n + 0 = omega arith in e)
class_place n (f ∷ front) back c =
    class_place (n + length f.class.subroutines) front back c ∙ ap (λ k. Some (subroutine_numbers k c.class.subroutines)) (let e : n + length f.class.subroutines + subroutines_in front ≡ n + (length f.class.subroutines + subroutines_in front) = omega arith in e)

-- the number of a subroutine among those of its class
name_place : (x : List ℕ) (m : ℕ) (before after : List tree.Subroutine) (t : tree.Subroutine) → bytes_eq x t.name.text ≡ true → NoneNamed x before → find_value x (subroutine_numbers m (before ++ t ∷ after)) ≡ Some (m + length before)
name_place x m [] after t same none = ap (λ b. if b then Some m else find_value x (subroutine_numbers (m + 1) after)) same ∙ ap (λ (k : ℕ). Some k) (let e : m ≡ m + 0 = omega arith in e)
name_place x m (s ∷ before) after t same none =
    ap (λ b. if b then Some m else find_value x (subroutine_numbers (m + 1) (before ++ t ∷ after))) none.0 ∙ name_place x (m + 1) before after t same none.1 ∙ ap (λ (k : ℕ). Some k) (let e : m + 1 + length before ≡ m + suc (length before) = omega arith in e)

-- the place of a subroutine's meaning among those of all classes
meaning_place : (all : List tree.ClassFile) (own statics : ℕ) (front back : List tree.ClassFile) (c : tree.ClassFile) (before after : List tree.Subroutine) (t : tree.Subroutine) (d : meaning.Subroutine) → c.class.subroutines ≡ before ++ t ∷ after
    → get_or (subroutines_meaning all own statics (front ++ c ∷ back)) (subroutines_in front + length before) d ≡ subroutine_meaning (standing all (own + length front) (statics + statics_in front) c.class t) (field_count c.class.variables) t
meaning_place all own statics [] back c before after t d shape =
    let F : tree.Subroutine → meaning.Subroutine = λ u. subroutine_meaning (standing all own statics c.class u) (field_count c.class.variables) u in
    let rest = subroutines_meaning all (own + 1) (statics + static_count c.class.variables) back in
    ap (λ l. get_or (map F l ++ rest) (0 + length before) d) shape
    ∙ ap (λ l. get_or (l ++ rest) (0 + length before) d) (map-append F before (t ∷ after))
    ∙ ap (λ l. get_or l (0 + length before) d) (append_assoc (map F before) (F t ∷ map F after) rest)
    ∙ get_or_at (map F before) (F t) (map F after ++ rest) d (0 + length before) (omega (arith, length-map before F))
    ∙ ap (λ k. subroutine_meaning (standing all k statics c.class t) (field_count c.class.variables) t) (let e : own ≡ own + 0 = omega arith in e)
    ∙ ap (λ k. subroutine_meaning (standing all (own + 0) k c.class t) (field_count c.class.variables) t) (let e : statics ≡ statics + 0 = omega arith in e)
meaning_place all own statics (f ∷ front) back c before after t d shape =
    let F : tree.Subroutine → meaning.Subroutine = λ u. subroutine_meaning (standing all own statics f.class u) (field_count f.class.variables) u in
    let rest = subroutines_meaning all (own + 1) (statics + static_count f.class.variables) (front ++ c ∷ back) in
    let n = subroutines_in front + length before in
    let index : length f.class.subroutines + subroutines_in front + length before ≡ length (map F f.class.subroutines) + n = omega (arith, length-map f.class.subroutines F) in
    ap (λ k. get_or (map F f.class.subroutines ++ rest) k d) index
    ∙ get_or-append-add (map F f.class.subroutines) rest n d
    ∙ meaning_place all (own + 1) (statics + static_count f.class.variables) front back c before after t d shape
    ∙ ap (λ k. subroutine_meaning (standing all k (statics + static_count f.class.variables + statics_in front) c.class t) (field_count c.class.variables) t) (let e : own + 1 + length front ≡ own + suc (length front) = omega arith in e)
    ∙ ap (λ k. subroutine_meaning (standing all (own + suc (length front)) k c.class t) (field_count c.class.variables) t) (let e : statics + static_count f.class.variables + statics_in front ≡ statics + (static_count f.class.variables + statics_in front) = omega arith in e)

-- The number that a subroutine's name has in its class is the place of its meaning in the program.
pub place : (front back : List tree.ClassFile) (c : tree.ClassFile) (before after : List tree.Subroutine) (t : tree.Subroutine) → c.class.subroutines ≡ before ++ t ∷ after → NoneNamed t.name.text before → bytes_eq t.name.text t.name.text ≡ true
    → subroutine_at (meaning_of (front ++ c ∷ back)).subroutines (subroutine_number (front ++ c ∷ back) (length front) t.name.text)
    ≡ subroutine_meaning (standing (front ++ c ∷ back) (length front) (statics_in front) c.class t) (field_count c.class.variables) t
place front back c before after t shape none same =
    let all = front ++ c ∷ back in
    let x = t.name.text in
    let d : meaning.Subroutine = record { kind = meaning.Function; class = 0; arguments = 0; locals = 0; body = meaning.End } in
    let numbered : subroutine_number all (length front) x ≡ suc (subroutines_in front + length before) =
    ap (λ o. found_in o x) (class_place 1 front back c)
    ∙ ap (λ l. number (find_value x (subroutine_numbers (1 + subroutines_in front) l))) shape
    ∙ ap number (name_place x (1 + subroutines_in front) before after t same none)
    ∙ (let e : 1 + subroutines_in front + length before ≡ suc (subroutines_in front + length before) = omega arith in e) in
    ap (λ k. get_or (no_subroutine ∷ subroutines_meaning all 0 0 all) k d) numbered
    ∙ meaning_place all 0 0 front back c before after t d shape
    ∙ ap (λ k. subroutine_meaning (standing all k (0 + statics_in front) c.class t) (field_count c.class.variables) t) (let e : 0 + length front ≡ length front = omega arith in e)
    ∙ ap (λ k. subroutine_meaning (standing all (length front) k c.class t) (field_count c.class.variables) t) (let e : 0 + statics_in front ≡ statics_in front = omega arith in e)
