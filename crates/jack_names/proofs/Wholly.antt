-- The search of the code and the search over abstract syntax are one: whole programs.
use Rattle.std.proofs.Common.{◌≡◌, ℕ, suc, ◌+◌, Bool, true, false, not, ◌&&◌, ◌==◌, if◌then◌else◌, List, [], ◌∷◌, ◌++◌, map, Option, Some, None, length, slice_get, codes, refl, sym, ap, subst, ◌∙◌, append-nil, add-zero, arith}
use Rattle.std.proofs.lemmas.List.{map-append, length-map}
use Rattle.std.specs.Str.{bytes_eq}
use Rattle.scan_text.specs.Text.{nowhere}
use Rattle.jack_tree.specs.Syntax as tree
use Rattle.jack_tree.specs.Seen.{the_parameter, the_subroutine, the_class, the_file}
use Rattle.jack_tree.specs.declared.tree.Subroutine.{Subroutine}
use Rattle.jack_tree.specs.declared.tree.Class.{Class}
use Rattle.name_table.specs.Names.{find_value, first_of}
use Rattle.jack_names.specs.Faults.{NameDiagnostic, first_in}
use Rattle.jack_names.specs.Using as plain
use Rattle.jack_names.specs.Inner.Scopes as scoped
use Rattle.jack_names.specs.Symbols as symbol
use Rattle.jack_names.specs.Inner.Whole as whole
use Rattle.jack_names.specs.NameFaults.{no_main, class_of}
use Rattle.jack_names.specs.declared.scope.Signature.{Signature}
use Rattle.jack_names.proofs.Naming.{first_none}
use Rattle.jack_names.proofs.Finding.{fails_if}
use Rattle.jack_names.proofs.Searched.{is_function, made, body_faults, file_faults, is_plain, main_of, has_main, all_faults}
use Rattle.jack_names.proofs.Alike.{declared_same}
use Rattle.jack_names.proofs.Resolving.{IsSignature, IsClass, title, class_title, function_same, made_same, body_same, body_is}

-- the subroutines of classes, the first of which has this number
abbrev Numbered : symbol.Symbols → ℕ → ℕ → List Class → Type 0
Numbered sy n m cs = (j : ℕ) (f : List ℕ) → sy.subroutine (n + j) f ≡ symbol.found_at (slice_get (symbol.all_signatures m cs) j) f

either_by : (b : Bool) (g : Signature) (s : tree.Subroutine) (o : Option Signature) (p : Option tree.Subroutine) → IsSignature (Some g) (Some s) → IsSignature o p
    → IsSignature (if b then Some g else o) (if b then Some s else p)
either_by true g s o p h k = h
either_by false g s o p h k = k

signatures_same : (n : ℕ) (ss : List Subroutine) (f : List ℕ) → IsSignature (find_value f (symbol.signatures n ss)) (plain.find_named title f (map the_subroutine ss))
signatures_same n [] f = tt
signatures_same n (s ∷ ss) f =
    either_by (bytes_eq f s.name.text) (record { number = n; form = s.form; parameters = length s.parameters.items }) (the_subroutine s) (find_value f (symbol.signatures (n + 1) ss)) (plain.find_named title f (map the_subroutine ss))
    (refl, sym (length-map s.parameters.items the_parameter)) (signatures_same (n + 1) ss f)

-- of the first class, and of the others
first_class : (sy : symbol.Symbols) (n m : ℕ) (c : Class) (cs : List Class) → Numbered sy n m (c ∷ cs) → (f : List ℕ) → IsSignature (sy.subroutine n f) (plain.find_named title f (map the_subroutine c.subroutines.items))
first_class sy n m c cs h f =
    let e : sy.subroutine n f ≡ find_value f (symbol.signatures m c.subroutines.items) = ap (λ (k : ℕ). sy.subroutine k f) (sym (add-zero n)) ∙ h 0 f in
    subst (λ (o : Option Signature). IsSignature o (plain.find_named title f (map the_subroutine c.subroutines.items))) (sym e) (signatures_same m c.subroutines.items f)

next_classes : (sy : symbol.Symbols) (n m : ℕ) (c : Class) (cs : List Class) → Numbered sy n m (c ∷ cs) → Numbered sy (n + 1) (m + length c.subroutines.items) cs
next_classes sy n m c cs h j f = let e : n + 1 + j ≡ n + suc j = omega arith in ap (λ (k : ℕ). sy.subroutine k f) e ∙ h (suc j) f

class_by : (sub : ℕ → List ℕ → Option Signature) (b : Bool) (n : ℕ) (c : tree.ClassFile) (o : Option ℕ) (p : Option tree.ClassFile) → IsClass sub (Some n) (Some c) → IsClass sub o p
    → IsClass sub (if b then Some n else o) (if b then Some c else p)
class_by sub true n c o p h k = h
class_by sub false n c o p h k = k

classes_same : (sy : symbol.Symbols) (n m : ℕ) (cs : List Class) → Numbered sy n m cs → (x : List ℕ) → IsClass sy.subroutine (find_value x (symbol.class_numbers n cs)) (plain.find_named class_title x (map the_file cs))
classes_same sy n m [] h x = tt
classes_same sy n m (c ∷ cs) h x =
    class_by sy.subroutine (bytes_eq x c.name.text) n (the_file c) (find_value x (symbol.class_numbers (n + 1) cs)) (plain.find_named class_title x (map the_file cs)) (first_class sy n m c cs h)
    (classes_same sy (n + 1) (m + length c.subroutines.items) cs (next_classes sy n m c cs h) x)

-- whether Main.main is a function without parameters
plain_same : (o : Option Signature) (p : Option tree.Subroutine) → IsSignature o p → (own os : List tree.ClassFile) → whole.is_plain o ≡ is_plain own os p
plain_same None None h own os = refl
plain_same None (Some s) h own os = absurd h
plain_same (Some g) None h own os = absurd h
plain_same (Some g) (Some s) h own os = λ i. (function_same g.form ∙ ap is_function h.0) i && (h.1 i == 0)

main_by : (sy : symbol.Symbols) (own os : List tree.ClassFile) (o : Option ℕ) (p : Option tree.ClassFile) → IsClass sy.subroutine o p → whole.is_plain (whole.found_by sy (codes "main") o) ≡ is_plain own os (main_of own os p)
main_by sy own os None None h = refl
main_by sy own os None (Some c) h = absurd h
main_by sy own os (Some k) None h = absurd h
main_by sy own os (Some k) (Some c) h = plain_same (sy.subroutine k (codes "main")) (plain.find_named title (codes "main") c.class.subroutines) (h (codes "main")) own os

if_not : (b : Bool) (t : NameDiagnostic) → (if b then None else Some t) ≡ fails_if (not b) t
if_not true t = refl
if_not false t = refl

module _ (own os : List tree.ClassFile) (sy : symbol.Symbols) (classes : (x : List ℕ) → IsClass sy.subroutine (sy.class x) (class_of own os x)) where
  main_same : whole.main_fault sy ≡ fails_if (not (has_main own os)) no_main
  main_same =
      if_not (whole.is_plain (whole.found_subroutine sy (codes "Main") (codes "main"))) no_main
      ∙ ap (λ (b : Bool). fails_if (not b) no_main) (main_by sy own os (sy.class (codes "Main")) (class_of own os (codes "Main")) (classes (codes "Main")))

  bodies_same : (shipped : Bool) (number statics : ℕ) (c : Class) → ((f : List ℕ) → IsSignature (sy.subroutine number f) (plain.find_named title f (map the_subroutine c.subroutines.items)))
      → (ss : List Subroutine) → whole.class_fault (symbol.class_scope sy shipped number statics c) ss ≡ first_in (body_faults own os (plain.source shipped (the_file c))) (map (plain.body (the_class c)) (map the_subroutine ss))
  bodies_same shipped number statics c h [] = refl
  bodies_same shipped number statics c h (s ∷ ss) =
      let scope : scoped.Scope = symbol.scope_in (symbol.class_scope sy shipped number statics c) s in
      let b : plain.Body = plain.body (the_class c) (the_subroutine s) in
      λ i. first_of (body_same own os scope b (body_is own os sy classes shipped number statics c h s) s refl i) (bodies_same shipped number statics c h ss i)

  class_same : (shipped : Bool) (number m statics : ℕ) (c : Class) (cs : List Class) → Numbered sy number m (c ∷ cs)
      → whole.class_fault (symbol.class_scope sy shipped number statics c) c.subroutines.items ≡ file_faults own os (plain.file shipped (the_file c))
  class_same shipped number m statics c cs h = bodies_same shipped number statics c (first_class sy number m c cs h) c.subroutines.items

  uses_same : (shipped : Bool) (number m statics : ℕ) (cs more : List Class) → Numbered sy number m (cs ++ more)
      → whole.uses_fault sy shipped number statics cs ≡ first_in (file_faults own os) (map (plain.file shipped) (map the_file cs))
  uses_same shipped number m statics [] more h = refl
  uses_same shipped number m statics (c ∷ cs) more h =
      λ i. first_of (class_same shipped number m statics c (cs ++ more) h i)
      (uses_same shipped (number + 1) (m + length c.subroutines.items) (statics + symbol.statics_of c.variables.items) cs more (next_classes sy number m c (cs ++ more) h) i)

  -- the call that the program begins with
  start_same : whole.start_fault sy ≡ file_faults own os plain.start_file
  start_same =
      let m : plain.Made = plain.by_class (codes "Sys") (codes "init") 0 nowhere in
      let b : Option NameDiagnostic = body_faults own os plain.start_file.source plain.start_body in
      made_same own os plain.start_file.source m (whole.start_scope sy) (λ g. refl) (sy.class (codes "Sys")) (class_of own os (codes "Sys")) refl (classes (codes "Sys"))
      ∙ sym (first_none b ∙ first_none (made own os plain.start_file.source m))

  by_file : (b : Bool) (u : Option NameDiagnostic) (fs : List plain.File) → u ≡ first_in (file_faults own os) fs → (x : Option NameDiagnostic) (f : plain.File) → x ≡ file_faults own os f
      → (r : Option NameDiagnostic) (gs : List plain.File) → r ≡ first_in (file_faults own os) gs
      → (if b then first_of (whole.start_fault sy) u else first_of x r) ≡ first_in (file_faults own os) (if b then plain.start_file ∷ fs else f ∷ gs)
  by_file true u fs e x f p r gs q = λ i. first_of (start_same i) (e i)
  by_file false u fs e x f p r gs q = λ i. first_of (p i) (q i)

  os_same : (number m statics : ℕ) (cs : List Class) → Numbered sy number m cs → whole.os_fault sy number statics cs ≡ first_in (file_faults own os) (plain.system_files (map the_file cs))
  os_same number m statics [] h = start_same ∙ sym (first_none (file_faults own os plain.start_file))
  os_same number m statics (c ∷ cs) h =
      let from : Option NameDiagnostic = whole.class_fault (symbol.class_scope sy true number statics c) c.subroutines.items in
      let statics' : ℕ = statics + symbol.statics_of c.variables.items in
      let fs : List plain.File = map (plain.file true) (map the_file (c ∷ cs)) in
      let whole_h : Numbered sy number m ((c ∷ cs) ++ []) = subst (λ (l : List Class). Numbered sy number m l) (sym (append-nil (c ∷ cs))) h in
      let first : whole.uses_fault sy true number statics (c ∷ cs) ≡ first_in (file_faults own os) fs = uses_same true number m statics (c ∷ cs) [] whole_h in
      let here : from ≡ file_faults own os (plain.file true (the_file c)) = class_same true number m statics c cs h in
      let rest : whole.os_fault sy (number + 1) statics' cs ≡ first_in (file_faults own os) (plain.system_files (map the_file cs)) =
      os_same (number + 1) (m + length c.subroutines.items) statics' cs (next_classes sy number m c cs h) in
      by_file (bytes_eq c.file (codes "Sys.jack")) (whole.uses_fault sy true number statics (c ∷ cs)) fs first from (plain.file true (the_file c)) here (whole.os_fault sy (number + 1) statics' cs) (plain.system_files (map the_file cs)) rest

-- the tables of a program
module _ (own os : List Class) where
  abbrev symbols : symbol.Symbols
  symbols = symbol.symbols_of (own ++ os)

  numbered : Numbered symbols 0 1 (own ++ os)
  numbered j f = let e : 0 + j ≡ j = omega arith in ap (λ (k : ℕ). symbols.subroutine k f) e

  numbered_os : (n m : ℕ) (cs : List Class) → Numbered symbols n m (cs ++ os) → (k : ℕ) → k ≡ n + length cs → (m' : ℕ) × Numbered symbols k m' os
  numbered_os n m [] h k e = (m, subst (λ (z : ℕ). Numbered symbols z m os) (let q : n ≡ k = omega arith in q) h)
  numbered_os n m (c ∷ cs) h k e = numbered_os (n + 1) (m + length c.subroutines.items) cs (next_classes symbols n m c (cs ++ os) h) k (omega arith)

  classes_are : (x : List ℕ) → IsClass symbols.subroutine (symbols.class x) (class_of (map the_file own) (map the_file os) x)
  classes_are x =
      subst (λ (l : List tree.ClassFile). IsClass symbols.subroutine (symbols.class x) (plain.find_named class_title x l)) (map-append the_file own os) (classes_same symbols 0 1 (own ++ os) numbered x)

  pub search_same : whole.first_name_fault own os ≡ all_faults (map the_file own) (map the_file os)
  search_same =
      let there = numbered_os 0 1 own numbered (length own) (omega arith) in
      λ i. first_of (declared_same own os i)
      (first_of (main_same (map the_file own) (map the_file os) symbols classes_are i)
      (first_of (uses_same (map the_file own) (map the_file os) symbols classes_are false 0 1 0 own os numbered i)
      (os_same (map the_file own) (map the_file os) symbols classes_are (length own) there.0 (whole.all_statics own) os there.1 i)))
