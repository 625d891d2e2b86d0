-- The first fault of declarations depends only on which names are there before.
use Rattle.std.proofs.Common.{◌≡◌, ℕ, Bool, true, false, cond, List, [], ◌∷◌, ◌++◌, Some, None, is_some, refl, sym, ap, ◌∙◌}
use Rattle.std.specs.Str.{bytes_eq}
use Rattle.jack_tree.specs.declared.tree.Class.{Class}
use Rattle.name_table.specs.Names.{first_of, names_in}
use Rattle.jack_names.specs.Tables.{is_among}
use Rattle.jack_names.specs.Inner.Twice.{told_name, source_of, file_fault, members_fault, declarations_fault}
use Rattle.jack_names.specs.Inner.Whole.{class_names}
use Rattle.jack_names.specs.Inner.Named.{with_all, marks}
use Rattle.jack_names.specs.declared.fault.NameKind.TheVariants as kinds
use Rattle.jack_names.proofs.Entries.{found_among}
use Rattle.jack_names.proofs.Naming.{found_filled}

among_by : (b c d : Bool) → cond b true (cond c true d) ≡ cond (cond b true c) true d
among_by true c d = refl
among_by false c d = refl

among-append : (x : List ℕ) (a : List (List ℕ)) (n : List ℕ) → is_among x (a ++ n ∷ []) ≡ cond (is_among x a) true (is_among x (n ∷ []))
among-append x [] n = refl
among-append x (y ∷ a) n = ap (λ (b : Bool). cond (bytes_eq x y) true b) (among-append x a n) ∙ among_by (bytes_eq x y) (is_among x a) (is_among x (n ∷ []))

more : (a b : List (List ℕ)) (n : List ℕ) → ((x : List ℕ) → is_among x a ≡ is_among x b) → (x : List ℕ) → is_among x (a ++ n ∷ []) ≡ is_among x (b ++ n ∷ [])
more a b n h x = among-append x a n ∙ ap (λ (c : Bool). cond c true (is_among x (n ∷ []))) (h x) ∙ sym (among-append x b n)

pub declared_same : (shipped : Bool) (a b : List (List ℕ)) (cs : List Class) → ((x : List ℕ) → is_among x a ≡ is_among x b) → declarations_fault shipped a cs ≡ declarations_fault shipped b cs
declared_same shipped a b [] h = refl
declared_same shipped a b (c ∷ cs) h =
    let name = c.name.text in
    let source = source_of shipped c in
    let rest = declared_same shipped (a ++ name ∷ []) (b ++ name ∷ []) cs (more a b name h) in
    λ i. first_of (first_of (file_fault source c) (first_of (cond (h name i) (Some (told_name source kinds.ClassTwice c.name)) None) (members_fault source c))) (rest i)

marked : (cs : List Class) → names_in (marks cs) ≡ class_names cs
marked [] = refl
marked (c ∷ cs) = ap (λ (l : List (List ℕ)). c.name.text ∷ l) (marked cs)

pub marks_are : (cs : List Class) (x : List ℕ) → is_among x (names_in (with_all [] (marks cs))) ≡ is_among x (class_names cs)
marks_are cs x = sym (found_among x (with_all [] (marks cs))) ∙ ap is_some (found_filled x (marks cs)) ∙ found_among x (marks cs) ∙ ap (is_among x) (marked cs)
