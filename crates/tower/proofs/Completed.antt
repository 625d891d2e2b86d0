-- A class of the operating system, which gets subroutines that no text spells, keeps to what each class that is read keeps to.
use Rattle.std.proofs.Common.{◌≡◌, ℕ, suc, ◌+◌, ◌≤◌, ◌^◌, Bool, true, false, List, [], ◌∷◌, ◌++◌, length, map, refl, sym, ap, subst, ◌∙◌, arith, length-append, if◌then◌else◌}
use Rattle.std.specs.Prelude.{nat_le, ◌&&◌}
use Rattle.std.specs.Str.{bytes_eq}
use Rattle.std.specs.Prelude.{codes}
use Rattle.std.proofs.lemmas.Bool.{leb-true}
use Rattle.std.proofs.lemmas.List.{length-map}
use Rattle.std.proofs.lemmas.List.Elements.{All-nil, All-cons}
use Rattle.grammar.specs.Rules.{Tree, Skip, Node, Leaf, Pair, Left, Right, Absent, Present, NoMore, More, tree_of_list}
use Rattle.jack_tree.specs.declared.token.Kind.TheVariants as kind
use Rattle.jack_tree.specs.declared.tree.Name.{Name}
use Rattle.jack_tree.specs.declared.tree.Scope as scopes
use Rattle.jack_tree.specs.declared.tree.Scope.TheVariants as scope
use Rattle.jack_tree.specs.declared.tree.Locals.{Locals}
use Rattle.jack_tree.specs.declared.tree.ClassVariables.{ClassVariables}
use Rattle.jack_tree.specs.declared.tree.Subroutine as code
use Rattle.jack_tree.specs.declared.tree.Class.{Class}
use Rattle.jack_tree.specs.Syntax.{Subroutine, ClassFile}
use Rattle.jack_tree.specs.Seen.{the_name, the_scope, the_variables, the_locals, the_parameter, the_subroutine, the_file}
use Rattle.jack_compiler.proofs.Resolving.{and_first, and_second}
use Rattle.grammar.specs.Words.{is_name_byte}
use Rattle.jack_parser.specs.Grammar.{Said, Fixed, Placed}
use Rattle.jack_parser.specs.ClassTrees.{subroutine_tree as code_tree}
use Rattle.jack_parser.proofs.PlainTrees.{subroutine_tree}
use Rattle.jack_parser.proofs.SameTrees.{subroutine_same}
use Rattle.jack_names.specs.Inner.Twice.{names_of}
use Rattle.jack_names.specs.Symbols.{locals_of, fields_of, statics_of, fields_in as code_fields, statics_in as code_statics}
use Rattle.jack_names.specs.Numbers.{local_count, field_count, static_count, fields_in, statics_in}
use Rattle.jack_names.specs.Meaning.{sizes}
use Rattle.jack_names.specs.Limits.{HasFew, AllHaveFew}
use Rattle.jack_names.proofs.Meaningful.{sizes_same}
use Rattle.jack_os.specs.Routines.{multiply, divide, init, alloc, deAlloc}
use Rattle.jack_os.specs.System.{Texts, AreClassesOf, added_to, with_added}
use Rattle.tower.specs.Read.{IsName, IsReadClass, AreReadClasses}
use Rattle.tower.specs.Spelled.{IsSpelled, ReadLaw}
use Rattle.tower.proofs.Trees.{IsReadSaid, IsReadTree}
use Rattle.tower.proofs.Limits.{spelled_few, spelled_subroutines}
use Rattle.tower.proofs.Literals.{subroutines_read}

-- ---- a test of trees

abbrev name_reads : List ℕ → Bool
name_reads [] = true
name_reads (b ∷ bs) = is_name_byte b && name_reads bs

name_sound : (bs : List ℕ) → name_reads bs ≡ true → IsName bs
name_sound [] h = All-nil (λ b. is_name_byte b ≡ true)
name_sound (b ∷ bs) h = All-cons (λ b. is_name_byte b ≡ true) b bs (and_first (is_name_byte b) (name_reads bs) h) (name_sound bs (and_second (is_name_byte b) (name_reads bs) h))

abbrev said_reads : Said → Bool
said_reads (Fixed (kind.Integer n)) = nat_le n 32767
said_reads (Fixed _) = true
said_reads (Placed kind.Identifier text at) = name_reads text
said_reads (Placed kind.Text text at) = false
said_reads (Placed _ text at) = true

abbrev tree_reads : Tree Said → Bool
tree_reads Skip = true
tree_reads (Node x) = tree_reads x
tree_reads (Leaf v) = said_reads v
tree_reads (Pair x y) = tree_reads x && tree_reads y
tree_reads (Left x) = tree_reads x
tree_reads (Right x) = tree_reads x
tree_reads Absent = true
tree_reads (Present x) = tree_reads x
tree_reads NoMore = true
tree_reads (More x y) = tree_reads x && tree_reads y

said_sound : (v : Said) → said_reads v ≡ true → IsReadSaid v
said_sound (Fixed (kind.Keyword k)) h = tt
said_sound (Fixed (kind.Symbol b)) h = tt
said_sound (Fixed (kind.Integer n)) h = leb-true n 32767 h
said_sound (Fixed kind.Text) h = tt
said_sound (Fixed kind.Identifier) h = tt
said_sound (Placed (kind.Keyword k) text at) h = tt
said_sound (Placed (kind.Symbol b) text at) h = tt
said_sound (Placed (kind.Integer n) text at) h = tt
said_sound (Placed kind.Text text at) h = absurd cc
said_sound (Placed kind.Identifier text at) h = name_sound text h

tree_sound : (t : Tree Said) → tree_reads t ≡ true → IsReadTree t
tree_sound Skip h = tt
tree_sound (Node x) h = tree_sound x h
tree_sound (Leaf v) h = said_sound v h
tree_sound (Pair x y) h = (tree_sound x (and_first (tree_reads x) (tree_reads y) h), tree_sound y (and_second (tree_reads x) (tree_reads y) h))
tree_sound (Left x) h = tree_sound x h
tree_sound (Right x) h = tree_sound x h
tree_sound Absent h = tt
tree_sound (Present x) h = tree_sound x h
tree_sound NoMore h = tt
tree_sound (More x y) h = (tree_sound x (and_first (tree_reads x) (tree_reads y) h), tree_sound y (and_second (tree_reads x) (tree_reads y) h))

-- ---- the subroutines that are added

-- few things are declared, each can be read, and there are few statements
record IsSmall (t : Subroutine) : Type 0 where
  reads : tree_reads (subroutine_tree t) ≡ true
  parameters : nat_le (length t.parameters) 16384 ≡ true
  locals : nat_le (local_count t.locals) 16384 ≡ true
  statements : nat_le (sizes t.statements) 16384 ≡ true

abbrev AreSmall : List Subroutine → Type 0
AreSmall [] = Unit {0}
AreSmall (t ∷ ts) = IsSmall t × AreSmall ts

read_added : (ts : List Subroutine) → AreSmall ts → IsReadTree (tree_of_list subroutine_tree ts NoMore)
read_added [] h = tt
read_added (t ∷ ts) h = (tree_sound (subroutine_tree t) h.0.reads, read_added ts h.1)

small_multiply : IsSmall multiply
small_multiply = record { reads = refl; parameters = refl; locals = refl; statements = refl }

small_divide : IsSmall divide
small_divide = record { reads = refl; parameters = refl; locals = refl; statements = refl }

small_init : IsSmall init
small_init = record { reads = refl; parameters = refl; locals = refl; statements = refl }

small_alloc : IsSmall alloc
small_alloc = record { reads = refl; parameters = refl; locals = refl; statements = refl }

small_deAlloc : IsSmall deAlloc
small_deAlloc = record { reads = refl; parameters = refl; locals = refl; statements = refl }

-- what the class of any file gets is small, and at most three
record AreFewSmall (ts : List Subroutine) : Type 0 where
  small : AreSmall ts
  few : length ts ≤ 3

by_tests : (math memory : Bool) → AreFewSmall (if math then multiply ∷ divide ∷ [] else (if memory then init ∷ alloc ∷ deAlloc ∷ [] else []))
by_tests true memory = record { small = (small_multiply, (small_divide, tt)); few = omega arith }
by_tests false true = record { small = (small_init, (small_alloc, (small_deAlloc, tt))); few = omega arith }
by_tests false false = record { small = tt; few = omega arith }

added_small : (file : List ℕ) → AreFewSmall (added_to file)
added_small file = by_tests (bytes_eq file (codes "Math.jack")) (bytes_eq file (codes "Memory.jack"))

-- ---- what a class declares, as it is seen

names_count : (xs : List Name) → length xs ≡ length (map the_name xs)
names_count xs = sym (length-map xs the_name)

locals_same : (vs : List Locals) → locals_of vs ≡ local_count (map the_locals vs)
locals_same [] = refl
locals_same (v ∷ vs) = λ i. names_count (names_of v.names) i + locals_same vs i

fields_seen : (c : scopes.Scope) (v : ClassVariables) → code_fields c v ≡ fields_in (the_scope c) (the_variables v)
fields_seen scope.Field v = names_count (names_of v.names)
fields_seen scope.Static v = refl

statics_seen : (c : scopes.Scope) (v : ClassVariables) → code_statics c v ≡ statics_in (the_scope c) (the_variables v)
statics_seen scope.Field v = refl
statics_seen scope.Static v = names_count (names_of v.names)

fields_same : (vs : List ClassVariables) → fields_of vs ≡ field_count (map the_variables vs)
fields_same [] = refl
fields_same (v ∷ vs) = λ i. fields_seen v.scope v i + fields_same vs i

statics_same : (vs : List ClassVariables) → statics_of vs ≡ static_count (map the_variables vs)
statics_same [] = refl
statics_same (v ∷ vs) = λ i. statics_seen v.scope v i + statics_same vs i

-- ---- a subroutine that is seen as another, or as a small one

record Few (t : Subroutine) : Type 0 where
  parameters : length t.parameters ≤ 16384
  locals : local_count t.locals ≤ 16384
  statements : 1 + sizes t.statements ≤ 2 ^ 31

few_seen : (s : code.Subroutine) → HasFew s → Few (the_subroutine s)
few_seen s h =
    let a = length-map s.parameters.items the_parameter in
    let b = locals_same s.locals.items in
    let c = sizes_same s.statements.items in
    let p = h.parameters in
    let l = h.locals in
    let n = h.statements in
    record { parameters = omega arith; locals = omega arith; statements = omega arith }

seen_few : (s : code.Subroutine) → Few (the_subroutine s) → HasFew s
seen_few s h =
    let a = length-map s.parameters.items the_parameter in
    let b = locals_same s.locals.items in
    let c = sizes_same s.statements.items in
    let p = h.parameters in
    let l = h.locals in
    let n = h.statements in
    record { parameters = omega arith; locals = omega arith; statements = omega arith }

small_few : (t : Subroutine) → IsSmall t → Few t
small_few t h =
    let p = leb-true (length t.parameters) 16384 h.parameters in
    let l = leb-true (local_count t.locals) 16384 h.locals in
    let n = leb-true (sizes t.statements) 16384 h.statements in
    record { parameters = p; locals = l; statements = omega arith }

all_few : (ss rs : List code.Subroutine) (ts : List Subroutine) → map the_subroutine ss ≡ map the_subroutine rs ++ ts → AllHaveFew rs → AreSmall ts → AllHaveFew ss
all_few [] rs ts e h k = tt
all_few (s ∷ ss) (r ∷ rs) ts e h k =
    let head : the_subroutine s ≡ the_subroutine r = cc in
    let tail : map the_subroutine ss ≡ map the_subroutine rs ++ ts = cc in
    (seen_few s (subst Few (sym head) (few_seen r h.0)), all_few ss rs ts tail h.1 k)
all_few (s ∷ ss) [] [] e h k = absurd cc
all_few (s ∷ ss) [] (t ∷ ts) e h k =
    let head : the_subroutine s ≡ t = cc in
    let tail : map the_subroutine ss ≡ ts = cc in
    (seen_few s (subst Few (sym head) (small_few t k.0)), all_few ss [] ts tail tt k.1)

-- ---- the trees of subroutines

trees_seen : (ss : List code.Subroutine) → tree_of_list code_tree ss NoMore ≡ tree_of_list subroutine_tree (map the_subroutine ss) NoMore
trees_seen [] = refl
trees_seen (s ∷ ss) = λ i. More (subroutine_same s i) (trees_seen ss i)

read_both : (ss ts : List Subroutine) → IsReadTree (tree_of_list subroutine_tree ss NoMore) → IsReadTree (tree_of_list subroutine_tree ts NoMore) → IsReadTree (tree_of_list subroutine_tree (ss ++ ts) NoMore)
read_both [] ts h k = k
read_both (s ∷ ss) ts h k = (h.0, read_both ss ts h.1 k)

-- ---- the class

completed_read : (added : List Subroutine) (read c : Class) → AreFewSmall added → IsSpelled read → IsReadClass read → the_file c ≡ with_added added (the_file read) → IsReadClass c
completed_read added read c small spelled h e =
    let name : c.name.text ≡ read.name.text = ap (λ (f : ClassFile). f.class.name.text) e in
    let variables : map the_variables c.variables.items ≡ map the_variables read.variables.items = ap (λ (f : ClassFile). f.class.variables) e in
    let subroutines : map the_subroutine c.subroutines.items ≡ map the_subroutine read.subroutines.items ++ added = ap (λ (f : ClassFile). f.class.subroutines) e in
    let fields : fields_of c.variables.items ≡ fields_of read.variables.items = fields_same c.variables.items ∙ ap field_count variables ∙ sym (fields_same read.variables.items) in
    let statics : statics_of c.variables.items ≡ statics_of read.variables.items = statics_same c.variables.items ∙ ap static_count variables ∙ sym (statics_same read.variables.items) in
    let own = subst IsReadTree (trees_seen read.subroutines.items) (spelled_subroutines read spelled) in
    let both = read_both (map the_subroutine read.subroutines.items) added own (read_added added small.small) in
    let trees : tree_of_list code_tree c.subroutines.items NoMore ≡ tree_of_list subroutine_tree (map the_subroutine read.subroutines.items ++ added) NoMore =
    trees_seen c.subroutines.items ∙ ap (λ (ss : List Subroutine). tree_of_list subroutine_tree ss NoMore) subroutines in
    let count : length c.subroutines.items ≡ length read.subroutines.items + length added =
    sym (length-map c.subroutines.items the_subroutine) ∙ ap length subroutines ∙ length-append (map the_subroutine read.subroutines.items) added
    ∙ ap (λ (n : ℕ). n + length added) (length-map read.subroutines.items the_subroutine) in
    record {
      within = record {
        fields = subst (λ (n : ℕ). n ≤ 16384) (sym fields) h.within.fields;
        subroutines = all_few c.subroutines.items read.subroutines.items added subroutines h.within.subroutines small.small;
      };
      name = subst IsName (sym name) h.name;
      statics = subst (λ (n : ℕ). n ≤ 16384) (sym statics) h.statics;
      few = omega (arith, count, small.few, spelled_few read spelled);
      subroutines = subroutines_read c.subroutines.items (subst IsReadTree (sym trees) both);
    }

-- the classes of files
pub files_read : ReadLaw → (files : Texts) (cs : List Class) → AreClassesOf files cs → AreReadClasses cs
files_read law [] [] h = tt
files_read law [] (c ∷ cs) h = absurd h
files_read law (f ∷ fs) [] h = absurd h
files_read law (f ∷ fs) (c ∷ cs) h =
    let read = law h.0.0 (f.1, h.0.1.0) in
    (completed_read (added_to f.0) h.0.0 c (added_small f.0) (f.1, h.0.1.0) read h.0.2, files_read law fs cs h.1)

pub as_many_classes : (files : Texts) (cs : List Class) → AreClassesOf files cs → length cs ≡ length files
as_many_classes [] [] h = refl
as_many_classes [] (c ∷ cs) h = absurd h
as_many_classes (f ∷ fs) [] h = absurd h
as_many_classes (f ∷ fs) (c ∷ cs) h = ap suc (as_many_classes fs cs h.1)
