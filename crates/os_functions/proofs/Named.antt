-- The routines of the system as it is shipped, in any program with it: what stands at the numbers to which their names lead.
use Rattle.std.proofs.Common.{◌≡◌, ℕ, zero, suc, ◌+◌, ◌<◌, true, nat_lt, List, [], ◌∷◌, ◌++◌, length, drop, take, get_or, codes, refl, sym, ap, ◌∙◌, subst, arith}
use Rattle.std.proofs.lemmas.Bool.Decides.{nat_tests}
use Rattle.jack_core.specs.declared.program.Core.{Core}
use Rattle.jack_core.specs.Texts.{the_subroutines}
use Rattle.jack_meaning.specs.Text as meaning
use Rattle.jack_meaning.specs.Meaning.{subroutine_at}
use Rattle.jack_parser.proofs.Decided.{class_in}
use Rattle.jack_tree.specs.Syntax.{Class, ClassFile, Subroutine}
use Rattle.jack_names.specs.Meaning.{program_meaning, subroutine_meaning}
use Rattle.jack_names.specs.NameFaults.{IsWellNamed}
use Rattle.jack_names.specs.Numbers.{standing, field_count, class_number, subroutine_number, in_class}
use Rattle.jack_os.specs.Routines.{multiply}
use Rattle.jack_os.specs.System.{system}
use Rattle.jack_os.proofs.SystemTexts.{system_classes, are_files, one_list}
use Rattle.os_laws.specs.Names.{IsShipped, HasRoutine, statics_in}
use Rattle.os_laws.proofs.NamesLead.{law as named}
use Rattle.os_functions.specs.Calls.{routine_number}

-- a list around one of its elements
around : {A : Type 0} (xs : List A) (i : ℕ) (d : A) → i < length xs → xs ≡ take i xs ++ get_or xs i d ∷ drop (suc i) xs
around [] i d h = absurd (omega (arith, h))
around (x ∷ xs) zero d h = refl
around (x ∷ xs) (suc i) d h = ap (λ ys. x ∷ ys) (around xs i d (omega (arith, h)))

abbrev no_class : ClassFile
no_class = record { file = []; class = class_in [] }

-- the i-th class of the system, and the k-th routine of a class
abbrev pub class_at : ℕ → ClassFile
class_at i = get_or system_classes i no_class

abbrev pub routine_in : ClassFile → ℕ → Subroutine
routine_in c k = get_or c.class.subroutines k multiply

-- the number to which names lead among these classes
abbrev pub number_in : List ClassFile → List ℕ → List ℕ → ℕ
number_in all class name = in_class (subroutine_number all) (class_number all class) name

-- there are this many classes, and this many routines in the i-th
abbrev pub IsThere : ℕ → ℕ → Type 0
IsThere i k = (nat_lt i 8 ≡ true) × (nat_lt k (length (class_at i).class.subroutines) ≡ true)

eight : length system_classes ≡ 8
eight = refl

below : (a b : ℕ) → nat_lt a b ≡ true → a < b
below a b h = grind (arith, nat_tests)

-- its meaning after these classes of a folder
abbrev meaning_by : List ClassFile → ℕ → ℕ → Class → Subroutine → meaning.Subroutine
meaning_by all own statics c t = subroutine_meaning (standing all own statics c t) (field_count c.variables) t

abbrev pub meaning_in : List ClassFile → ℕ → ℕ → meaning.Subroutine
meaning_in own i k = meaning_by (own ++ system_classes) (length (own ++ take i system_classes)) (statics_in (own ++ take i system_classes)) (class_at i).class (routine_in (class_at i) k)

module _ (core : Core) (p : IsShipped core) where
  pub shipped : p.os ≡ system_classes
  shipped = one_list system p.os system_classes p.system are_files

  pub numbered : (class name : List ℕ) → routine_number p class name ≡ number_in (p.own ++ system_classes) class name
  numbered class name = ap (λ (os : List ClassFile). number_in (p.own ++ os) class name) shipped

  pub leads : (i k : ℕ) → IsThere i k → subroutine_at (the_subroutines core) (routine_number p (class_at i).class.name.text (routine_in (class_at i) k).name.text) ≡ meaning_in p.own i k
  leads i k r =
      let front = take i system_classes in
      let back = drop (suc i) system_classes in
      let c = class_at i in
      let t = routine_in c k in
      let shape : system_classes ≡ front ++ c ∷ back = around system_classes i no_class (omega (arith, eight, below i 8 r.0)) in
      let at = shipped ∙ shape in
      let h : HasRoutine core c.class.name.text t = record {
        own = p.own;
        front = front;
        c = c;
        back = back;
        before = take k c.class.subroutines;
        after = drop (suc k) c.class.subroutines;
        program = p.program ∙ ap (program_meaning p.own) at;
        well = subst (IsWellNamed p.own) at p.well;
        named = refl;
        has = around c.class.subroutines k multiply (below k (length c.class.subroutines) r.1);
      } in
      ap (λ (os : List ClassFile). subroutine_at (the_subroutines core) (number_in (p.own ++ os) c.class.name.text t.name.text)) at
      ∙ named core c.class.name.text t h
      ∙ ap (λ (os : List ClassFile). meaning_by (p.own ++ os) (length (p.own ++ front)) (statics_in (p.own ++ front)) c.class t) (sym shape)

pub statics_joined : (own more : List ClassFile) → statics_in (own ++ more) ≡ statics_in own + statics_in more
statics_joined [] more = omega arith
statics_joined (c ∷ own) more = omega (arith, statics_joined own more)

-- the number of Sys.error
abbrev pub system_error : {core : Core} → IsShipped core → ℕ
system_error p = number_in (p.own ++ system_classes) (codes "Sys") (codes "error")

module _ (core : Core) (p : IsShipped core) where
  -- the number of the i-th class of the system, of a routine, and of the first static of the i-th class
  abbrev pub own_number : ℕ → ℕ
  own_number i = length (p.own ++ take i system_classes)

  abbrev pub number_of : List ℕ → List ℕ → ℕ
  number_of class name = number_in (p.own ++ system_classes) class name

  abbrev pub first_static : ℕ → ℕ
  first_static i = statics_in (p.own ++ take i system_classes)

  pub is_error : routine_number p (codes "Sys") (codes "error") ≡ system_error p
  is_error = numbered core p (codes "Sys") (codes "error")
