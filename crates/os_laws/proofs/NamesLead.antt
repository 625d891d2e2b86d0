-- Names lead to meanings, in a program that is well named.
use Rattle.std.proofs.Common.{◌≡◌, ℕ, suc, ◌+◌, Bool, true, false, List, [], ◌∷◌, ◌++◌, map, length, Some, refl, sym, ap, ◌∙◌, subst, arith, append_assoc, length-append}
use Rattle.std.specs.Prelude.{slice_get, if◌then◌else◌}
use Rattle.std.specs.Str.{bytes_eq}
use Rattle.std.specs.List.{AllByRecursion}
use Rattle.std.proofs.lemmas.Slice.Eq.{bytes_eq-Decides}
use Rattle.jack_tree.specs.Syntax as tree
use Rattle.name_table.specs.Names.{find_value}
use Rattle.jack_names.specs.Numbers.{class_numbers, class_number, subroutine_number, in_class, standing, field_count}
use Rattle.jack_names.specs.Meaning.{meaning_of, subroutine_meaning}
use Rattle.jack_names.specs.NameFaults.{IsWellNamed, Shipped, Earlier, OfSubroutines, ClassTwice, MemberTwice, InDeclaration}
use Rattle.jack_meaning.specs.Text.{Program}
use Rattle.jack_meaning.specs.Meaning.{subroutine_at}
use Rattle.jack_core.specs.Texts.{the_subroutines}
use Rattle.os_laws.specs.Names.{statics_in}
use Rattle.os_laws.specs.NameLaws.{NamedLaw}
use Rattle.os_laws.proofs.Parts.{all_join}
use Rattle.os_laws.proofs.Places.{NoneNamed, place}

-- what holds of each element, by what stands before and after it
each : {A : Type 0} (P : A → Type 0) (pre xs : List A) → ((front : List A) (a : A) (back : List A) → pre ++ xs ≡ front ++ a ∷ back → P a) → AllByRecursion P xs
each P pre [] f = tt
each P pre (x ∷ xs) f = (f pre x xs refl, each P (pre ++ x ∷ []) xs (λ front a back e. f front a back (sym (append_assoc pre (x ∷ []) xs) ∙ e)))

slice_at : {A : Type 0} (pre : List A) (a : A) (post : List A) → slice_get (pre ++ a ∷ post) (length pre) ≡ Some a
slice_at [] a post = refl
slice_at (x ∷ pre) a post = slice_at pre a post

-- a test that cannot pass fails
fails : (b : Bool) → (b ≡ true → ⊥) → b ≡ false
fails true h = absurd (h refl)
fails false h = refl

differs : (x y : List ℕ) → (x ≡ y → ⊥) → bytes_eq x y ≡ false
differs x y h = fails (bytes_eq x y) (λ e. h ((bytes_eq-Decides x y).0 e))

class_found : (x : List ℕ) (n : ℕ) (front back : List tree.ClassFile) (c : tree.ClassFile) → x ≡ c.class.name.text → AllByRecursion (λ (d : tree.ClassFile). bytes_eq x d.class.name.text ≡ false) front
    → find_value x (class_numbers n (front ++ c ∷ back)) ≡ Some (n + length front)
class_found x n [] back c same none =
    ap (λ b. if b then Some n else find_value x (class_numbers (n + 1) back)) ((bytes_eq-Decides x c.class.name.text).1 same) ∙ ap (λ (k : ℕ). Some k) (let e : n ≡ n + 0 = omega arith in e)
class_found x n (f ∷ front) back c same none =
    ap (λ b. if b then Some n else find_value x (class_numbers (n + 1) (front ++ c ∷ back))) none.0 ∙ class_found x (n + 1) front back c same none.1
    ∙ ap (λ (k : ℕ). Some k) (let e : n + 1 + length front ≡ n + suc (length front) = omega arith in e)

module _ (own front back : List tree.ClassFile) (c : tree.ClassFile) (before after : List tree.Subroutine) (t : tree.Subroutine) (well : IsWellNamed own (front ++ c ∷ back)) (shape : c.class.subroutines ≡ before ++ t ∷ after) where
  abbrev os : List tree.ClassFile
  os = front ++ c ∷ back

  abbrev x : List ℕ
  x = c.class.name.text

  abbrev NotThere : tree.ClassFile → Type 0
  NotThere d = bytes_eq x d.class.name.text ≡ false

  -- no class of the folder has the name
  none_own : AllByRecursion NotThere own
  none_own =
      each NotThere [] own
      (λ pre d post e. differs x d.class.name.text
      (λ same. well _ _ (InDeclaration {shipped = false} {i = length pre} (ap (λ l. slice_get l (length pre)) e ∙ slice_at pre d post) (ClassTwice {d = c} (Shipped (length front) (slice_at front c back)) same))))

  -- and no class of the system before
  none_front : AllByRecursion NotThere front
  none_front =
      each NotThere [] front
      (λ pre d post e. differs x d.class.name.text
      (λ same. well _ _ (InDeclaration {shipped = true} {i = length front} (slice_at front c back)
      (ClassTwice {d = d} (Earlier (length pre) (let s : length front ≡ length (pre ++ d ∷ post) = ap length e in omega (arith, s, length-append pre (d ∷ post)))
      (ap (λ l. slice_get l (length pre)) (ap (λ l. l ++ c ∷ back) e ∙ append_assoc pre (d ∷ post) (c ∷ back)) ∙ slice_at pre d (post ++ c ∷ back))) (sym same)))))

  -- no subroutine of the class before has the name
  none_before : NoneNamed t.name.text before
  none_before =
      each (λ s. bytes_eq t.name.text s.name.text ≡ false) [] before
      (λ pre s post e. differs t.name.text s.name.text
      (λ same. well _ _ (InDeclaration {shipped = true} {i = length front} (slice_at front c back)
      (MemberTwice (OfSubroutines {n = length before} {x = t.name} (record {
        here = ap (λ l. slice_get (map (λ (u : tree.Subroutine). u.name) l) (length before)) shape ∙ named_at before after t;
        before = (
          length pre,
          s.name,
          (let k : length before ≡ length (pre ++ s ∷ post) = ap length e in omega (arith, k, length-append pre (s ∷ post))),
          ap (λ l. slice_get (map (λ (u : tree.Subroutine). u.name) l) (length pre)) (shape ∙ ap (λ l. l ++ t ∷ after) e ∙ append_assoc pre (s ∷ post) (t ∷ after)) ∙ named_at pre (post ++ t ∷ after) s,
          sym same,
        );
      }))))))
    where
      named_at : (pre post : List tree.Subroutine) (u : tree.Subroutine) → slice_get (map (λ (v : tree.Subroutine). v.name) (pre ++ u ∷ post)) (length pre) ≡ Some u.name
      named_at [] post u = refl
      named_at (v ∷ pre) post u = named_at pre post u

  all_shape : (own ++ front) ++ c ∷ back ≡ own ++ os
  all_shape = append_assoc own front (c ∷ back)

  is_class : class_number (own ++ os) x ≡ Some (length (own ++ front))
  is_class =
      ap (λ l. find_value x (class_numbers 0 l)) (sym all_shape) ∙ class_found x 0 (own ++ front) back c refl (all_join NotThere own front none_own none_front)
      ∙ ap (λ (k : ℕ). Some k) (let e : 0 + length (own ++ front) ≡ length (own ++ front) = omega arith in e)

-- the names of the class and of the subroutine, as they stand in the class
lead : (own front back : List tree.ClassFile) (c : tree.ClassFile) (before after : List tree.Subroutine) (t : tree.Subroutine) → IsWellNamed own (front ++ c ∷ back) → c.class.subroutines ≡ before ++ t ∷ after
    → subroutine_at (meaning_of (own ++ (front ++ c ∷ back))).subroutines
    (in_class (subroutine_number (own ++ (front ++ c ∷ back))) (class_number (own ++ (front ++ c ∷ back)) c.class.name.text) t.name.text)
    ≡ subroutine_meaning (standing (own ++ (front ++ c ∷ back)) (length (own ++ front)) (statics_in (own ++ front)) c.class t) (field_count c.class.variables) t
lead own front back c before after t well shape =
    let all = own ++ (front ++ c ∷ back) in
    ap (λ o. subroutine_at (meaning_of all).subroutines (in_class (subroutine_number all) o t.name.text)) (is_class own front back c before after t well shape)
    ∙ subst
    (λ (l : List tree.ClassFile). subroutine_at (meaning_of l).subroutines (subroutine_number l (length (own ++ front)) t.name.text) ≡ subroutine_meaning (standing l (length (own ++ front)) (statics_in (own ++ front)) c.class t) (field_count c.class.variables) t)
    (all_shape own front back c before after t well shape)
    (place (own ++ front) back c before after t shape (none_before own front back c before after t well shape) ((bytes_eq-Decides t.name.text t.name.text).1 refl))

pub law : NamedLaw
law core class t h =
    let all = h.own ++ (h.front ++ h.c ∷ h.back) in
    ap (λ x. subroutine_at (the_subroutines core) (in_class (subroutine_number all) (class_number all x) t.name.text)) (sym h.named)
    ∙ ap (λ (p : Program). subroutine_at p.subroutines (in_class (subroutine_number all) (class_number all h.c.class.name.text) t.name.text)) h.program
    ∙ lead h.own h.front h.back h.c h.before h.after t h.well h.has
