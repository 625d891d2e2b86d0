-- Calls with nothing before the name, within the class String: they lead to what the full name leads to.
use Rattle.std.proofs.Common.{◌≡◌, ℕ, suc, ◌+◌, Bool, true, false, List, [], ◌∷◌, ◌++◌, length, take, Some, codes, refl, sym, ap, ◌∙◌, subst, arith, append_assoc, length-append}
use Rattle.std.specs.Prelude.{slice_get, if◌then◌else◌}
use Rattle.std.specs.Str.{bytes_eq}
use Rattle.std.specs.List.{AllByRecursion}
use Rattle.std.proofs.lemmas.Slice.Eq.{bytes_eq-Decides}
use Rattle.jack_core.specs.declared.program.Core.{Core}
use Rattle.jack_names.specs.NameFaults.{IsWellNamed, Shipped, ClassTwice, InDeclaration}
use Rattle.jack_names.specs.Numbers.{class_numbers, class_number, subroutine_number, in_class}
use Rattle.name_table.specs.Names.{find_value}
use Rattle.jack_os.proofs.SystemTexts.{system_classes}
use Rattle.jack_tree.specs.Syntax.{ClassFile}
use Rattle.os_laws.specs.Names.{IsShipped}
use Rattle.os_functions.specs.Calls.{routine_number}
use Rattle.os_functions.proofs.Named.{class_at, shipped, numbered, own_number}

-- what holds of each element, by what stands before and after it
each : {A : Type 0} (P : A → Type 0) (pre xs : List A) → ((front : List A) (a : A) (back : List A) → pre ++ xs ≡ front ++ a ∷ back → P a) → AllByRecursion P xs
each P pre [] f = tt
each P pre (x ∷ xs) f = (f pre x xs refl, each P (pre ++ x ∷ []) xs (λ front a back e. f front a back (sym (append_assoc pre (x ∷ []) xs) ∙ e)))

slice_at : {A : Type 0} (pre : List A) (a : A) (post : List A) → slice_get (pre ++ a ∷ post) (length pre) ≡ Some a
slice_at [] a post = refl
slice_at (x ∷ pre) a post = slice_at pre a post

fails : (b : Bool) → (b ≡ true → ⊥) → b ≡ false
fails true h = absurd (h refl)
fails false h = refl

differs : (x y : List ℕ) → (x ≡ y → ⊥) → bytes_eq x y ≡ false
differs x y h = fails (bytes_eq x y) (λ e. h ((bytes_eq-Decides x y).0 e))

-- classes of another name are passed over
passes : (x : List ℕ) (n : ℕ) (own rest : List ClassFile) → AllByRecursion (λ (d : ClassFile). bytes_eq x d.class.name.text ≡ false) own → find_value x (class_numbers n (own ++ rest)) ≡ find_value x (class_numbers (n + length own) rest)
passes x n [] rest h = ap (λ (k : ℕ). find_value x (class_numbers k rest)) (let e : n ≡ n + 0 = omega arith in e)
passes x n (d ∷ own) rest h =
    ap (λ b. if b then Some n else find_value x (class_numbers (n + 1) (own ++ rest))) h.0 ∙ passes x (n + 1) own rest h.1
    ∙ ap (λ (k : ℕ). find_value x (class_numbers k rest)) (let e : n + 1 + length own ≡ n + suc (length own) = omega arith in e)

module _ (core : Core) (p : IsShipped core) where
  abbrev string : List ℕ
  string = (class_at 6).class.name.text

  -- no class of the folder has the name
  none_own : AllByRecursion (λ (d : ClassFile). bytes_eq string d.class.name.text ≡ false) p.own
  none_own =
      let well : IsWellNamed p.own system_classes = subst (IsWellNamed p.own) (shipped core p) p.well in
      each (λ (d : ClassFile). bytes_eq string d.class.name.text ≡ false) [] p.own
      (λ pre d post e. differs string d.class.name.text
      (λ same. well _ _ (InDeclaration {shipped = false} {i = length pre} (ap (λ l. slice_get l (length pre)) e ∙ slice_at pre d post) (ClassTwice {d = class_at 6} (Shipped 6 refl) same))))

  own_class : class_number (p.own ++ system_classes) (codes "String") ≡ Some (own_number core p 6)
  own_class =
      let found : find_value (codes "String") (class_numbers (0 + length p.own) system_classes) ≡ Some (0 + length p.own + 1 + 1 + 1 + 1 + 1 + 1) = refl in
      passes (codes "String") 0 p.own system_classes none_own ∙ found
      ∙ ap (λ (k : ℕ). Some k) (let size : length (p.own ++ take 6 system_classes) ≡ length p.own + 6 = length-append p.own (take 6 system_classes) in let e : 0 + length p.own + 1 + 1 + 1 + 1 + 1 + 1 ≡ length (p.own ++ take 6 system_classes) = omega (arith, size) in e)

  -- the number of a routine of the class String by its name alone
  abbrev pub by_own : List ℕ → ℕ
  by_own name = subroutine_number (p.own ++ system_classes) (own_number core p 6) name

  pub same_own : (name : List ℕ) → by_own name ≡ routine_number p (codes "String") name
  same_own name = sym (numbered core p (codes "String") name ∙ ap (λ o. in_class (subroutine_number (p.own ++ system_classes)) o name) own_class)
