-- The search of the code and the search over abstract syntax are one: declarations.
use Rattle.std.proofs.Common.{◌≡◌, ℕ, Bool, true, false, not, if◌then◌else◌, List, [], ◌∷◌, ◌++◌, map, Option, Some, None, codes, refl, sym, ap, ◌∙◌, append_assoc, append-nil}
use Rattle.std.proofs.lemmas.List.{map-append}
use Rattle.std.specs.Str.{bytes_eq}
use Rattle.jack_tree.specs.Syntax as tree
use Rattle.jack_tree.specs.Seen.{the_name, the_names, the_scope, the_type, the_variables, the_locals, the_parameter, the_subroutine, the_file}
use Rattle.jack_tree.specs.declared.tree.Name.{Name}
use Rattle.jack_tree.specs.declared.tree.Names.{Names}
use Rattle.jack_tree.specs.declared.tree.ClassVariables.{ClassVariables}
use Rattle.jack_tree.specs.declared.tree.Locals.{Locals}
use Rattle.jack_tree.specs.declared.tree.Parameter.{Parameter}
use Rattle.jack_tree.specs.declared.tree.Subroutine.{Subroutine}
use Rattle.jack_tree.specs.declared.tree.Class.{Class}
use Rattle.name_table.specs.Names.{first_of}
use Rattle.jack_names.specs.Faults.{NameDiagnostic, Source}
use Rattle.jack_names.specs.Inner.Twice.{told_name, twice_fault, texts_of, first_twice, names_of, members_twice, parameter_names, locals_twice, variables_fault, subroutines_fault, source_of, declaration_fault, declarations_fault}
use Rattle.jack_names.specs.Inner.Whole.{class_names, declared_fault}
use Rattle.jack_names.specs.Using.{Variable, variable, all_names, is_field, members, parameters, locals, inner}
use Rattle.jack_names.specs.NameFaults.{names}
use Rattle.jack_names.specs.declared.fault.NameKind.{NameKind}
use Rattle.jack_names.specs.declared.fault.NameKind.TheVariants as kinds
use Rattle.jack_names.proofs.Naming.{first_assoc}
use Rattle.jack_names.proofs.Finding.{fails_if}
use Rattle.jack_names.proofs.Searched.{twice, subroutines_twice, declaration, declarations}
use Rattle.jack_names.proofs.Repeated.{class_title}

-- a list of names, before others
twice-append : (from : Source) (kind : NameKind) (before : List (List ℕ)) (xs : List Name) (ys : List tree.Name)
    → twice from kind before (map the_name xs ++ ys) ≡ first_of (first_twice from kind before xs) (twice from kind (before ++ texts_of xs) ys)
twice-append from kind before [] ys = ap (λ (b : List (List ℕ)). twice from kind b ys) (sym (append-nil before))
twice-append from kind before (x ∷ xs) ys =
    ap (λ (o : Option NameDiagnostic). first_of (twice_fault from kind before x) o)
    (twice-append from kind (before ++ x.text ∷ []) xs ys ∙ ap (λ (b : List (List ℕ)). first_of (first_twice from kind (before ++ x.text ∷ []) xs) (twice from kind b ys)) (append_assoc before (x.text ∷ []) (texts_of xs)))
    ∙ sym (first_assoc (twice_fault from kind before x) (first_twice from kind (before ++ x.text ∷ []) xs) (twice from kind (before ++ texts_of (x ∷ xs)) ys))

line_names : (b : Bool) (type : tree.ValueType) (xs : List tree.Name) → names (map (variable b type) xs) ≡ xs
line_names b type [] = refl
line_names b type (x ∷ xs) = ap (λ (l : List tree.Name). x ∷ l) (line_names b type xs)

-- one declaration's names, before those of others
line_first : (b : Bool) (type : tree.ValueType) (ns : Names) (vs : List Variable) → names (map (variable b type) (all_names (the_names ns)) ++ vs) ≡ map the_name (names_of ns) ++ names vs
line_first b type ns vs =
    map-append (λ (v : Variable). v.name) (map (variable b type) (all_names (the_names ns))) vs ∙ ap (λ (l : List tree.Name). l ++ names vs) (line_names b type (all_names (the_names ns)))

members_same : (from : Source) (before : List (List ℕ)) (vs : List ClassVariables) → members_twice from before vs ≡ twice from kinds.MemberTwice before (names (members (map the_variables vs)))
members_same from before [] = refl
members_same from before (v ∷ vs) =
    ap (λ (o : Option NameDiagnostic). first_of (first_twice from kinds.MemberTwice before (names_of v.names)) o) (members_same from (before ++ texts_of (names_of v.names)) vs)
    ∙ sym (twice-append from kinds.MemberTwice before (names_of v.names) (names (members (map the_variables vs))))
    ∙ ap (twice from kinds.MemberTwice before) (sym (line_first (is_field (the_scope v.scope)) (the_type v.kind) v.names (members (map the_variables vs))))

locals_same : (from : Source) (before : List (List ℕ)) (vs : List Locals) → locals_twice from before vs ≡ twice from kinds.VariableTwice before (names (locals (map the_locals vs)))
locals_same from before [] = refl
locals_same from before (v ∷ vs) =
    ap (λ (o : Option NameDiagnostic). first_of (first_twice from kinds.VariableTwice before (names_of v.names)) o) (locals_same from (before ++ texts_of (names_of v.names)) vs)
    ∙ sym (twice-append from kinds.VariableTwice before (names_of v.names) (names (locals (map the_locals vs))))
    ∙ ap (twice from kinds.VariableTwice before) (sym (line_first false (the_type v.kind) v.names (locals (map the_locals vs))))

parameters_same : (ps : List Parameter) → names (parameters (map the_parameter ps)) ≡ map the_name (parameter_names ps)
parameters_same [] = refl
parameters_same (p ∷ ps) = ap (λ (l : List tree.Name). the_name p.name ∷ l) (parameters_same ps)

variables_same : (from : Source) (s : Subroutine) → variables_fault from s ≡ twice from kinds.VariableTwice [] (names (inner (the_subroutine s)))
variables_same from s =
    let ps : List Variable = parameters (map the_parameter s.parameters.items) in
    let ls : List Variable = locals (map the_locals s.locals.items) in
    ap (λ (o : Option NameDiagnostic). first_of (first_twice from kinds.VariableTwice [] (parameter_names s.parameters.items)) o) (locals_same from (texts_of (parameter_names s.parameters.items)) s.locals.items)
    ∙ sym (twice-append from kinds.VariableTwice [] (parameter_names s.parameters.items) (names ls))
    ∙ ap (λ (l : List tree.Name). twice from kinds.VariableTwice [] (l ++ names ls)) (sym (parameters_same s.parameters.items))
    ∙ ap (twice from kinds.VariableTwice []) (sym (map-append (λ (v : Variable). v.name) ps ls))

subroutines_same : (from : Source) (before : List (List ℕ)) (ss : List Subroutine) → subroutines_fault from before ss ≡ subroutines_twice from before (map the_subroutine ss)
subroutines_same from before [] = refl
subroutines_same from before (s ∷ ss) =
    let first : Option NameDiagnostic = twice_fault from kinds.MemberTwice before s.name in
    let rest : Option NameDiagnostic = subroutines_twice from (before ++ s.name.text ∷ []) (map the_subroutine ss) in
    (λ i. first_of first (first_of (variables_same from s i) (subroutines_same from (before ++ s.name.text ∷ []) ss i)))
    ∙ sym (first_assoc first (twice from kinds.VariableTwice [] (names (inner (the_subroutine s)))) rest)

if_not : (b : Bool) (t : NameDiagnostic) → (if b then None else Some t) ≡ fails_if (not b) t
if_not true t = refl
if_not false t = refl

declaration_same : (shipped : Bool) (before : List (List ℕ)) (c : Class) → declaration_fault shipped before c ≡ declaration shipped before (the_file c)
declaration_same shipped before c =
    let from : Source = source_of shipped c in
    let is_file : Bool = bytes_eq (c.name.text ++ codes ".jack") c.file in
    let file : Option NameDiagnostic = fails_if (not is_file) (told_name from kinds.FileName c.name) in
    let title : Option NameDiagnostic = twice_fault from kinds.ClassTwice before c.name in
    let members : Option NameDiagnostic = twice from kinds.MemberTwice [] (names (members (map the_variables c.variables.items))) in
    let subroutines : Option NameDiagnostic = subroutines_twice from [] (map the_subroutine c.subroutines.items) in
    (λ i. first_of (if_not is_file (told_name from kinds.FileName c.name) i) (first_of title (first_of (members_same from [] c.variables.items i) (subroutines_same from [] c.subroutines.items i))))
    ∙ sym (first_assoc file title (first_of members subroutines))

declarations_same : (shipped : Bool) (before : List (List ℕ)) (cs : List Class) → declarations_fault shipped before cs ≡ declarations shipped before (map the_file cs)
declarations_same shipped before [] = refl
declarations_same shipped before (c ∷ cs) = λ i. first_of (declaration_same shipped before c i) (declarations_same shipped (before ++ c.name.text ∷ []) cs i)

titles_same : (cs : List Class) → class_names cs ≡ map class_title (map the_file cs)
titles_same [] = refl
titles_same (c ∷ cs) = ap (λ (l : List (List ℕ)). c.name.text ∷ l) (titles_same cs)

pub declared_same : (own os : List Class) → declared_fault own os ≡ first_of (declarations false (map class_title (map the_file os)) (map the_file own)) (declarations true [] (map the_file os))
declared_same own os =
    ap (λ (b : List (List ℕ)). first_of (declarations_fault false b own) (declarations_fault true [] os)) (titles_same os)
    ∙ (λ i. first_of (declarations_same false (map class_title (map the_file os)) own i) (declarations_same true [] os i))
