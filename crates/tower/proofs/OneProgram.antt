-- Classes with the same abstract syntax mean one program.
use Rattle.std.proofs.Common.{◌≡◌, ◌++◌, ℕ, List, [], ◌∷◌, map, refl, subst, sym, ap, ◌∙◌}
use Rattle.jack_tree.specs.declared.tree.Class.{Class}
use Rattle.jack_tree.specs.Syntax as syntax
use Rattle.jack_tree.specs.Seen.{the_class, the_file}
use Rattle.jack_parser.proofs.Spelt.{one_class}
use Rattle.jack_names.specs.Meaning.{program_meaning, program_names}
use Rattle.jack_tree.specs.Syntax.{ClassFile}
use Rattle.jack_os.specs.System.{Texts, IsClassOf, AreClassesOf, added_to, with_added}
use Rattle.tower.specs.Program.{class_names}
use Rattle.tower.specs.Sources.{system_beside}
use Rattle.tower.specs.OneProgram.{OneProgramLaw}

one_of_file : (file text : List ℕ) (c d : Class) → IsClassOf file text c → IsClassOf file text d → the_file c ≡ the_file d
one_of_file file text c d (r, spelled, adds) (t, spelled', adds') =
    let class : the_class r ≡ the_class t = (one_class text).one (the_class r) (the_class t) spelled.0 spelled'.0 in
    let name : r.file ≡ t.file = spelled.1 ∙ sym spelled'.1 in
    let read : the_file r ≡ the_file t = λ i. record { file = name i; class = class i } in
    adds ∙ ap (λ (f : syntax.ClassFile). with_added (added_to file) f) read ∙ sym adds'

-- files have one list of classes
pub one_system : (files : Texts) (cs ds : List Class) → AreClassesOf files cs → AreClassesOf files ds → map the_file cs ≡ map the_file ds
one_system [] [] [] h k = refl
one_system [] [] (d ∷ ds) h k = absurd k
one_system [] (c ∷ cs) ds h k = absurd h
one_system (f ∷ fs) [] ds h k = absurd h
one_system (f ∷ fs) (c ∷ cs) [] h k = absurd k
one_system (f ∷ fs) (c ∷ cs) (d ∷ ds) h k =
    let p = one_of_file f.0 f.1 c d h.0 k.0 in
    let q = one_system fs cs ds h.1 k.1 in
    λ i. p i ∷ q i

pub one_program : OneProgramLaw
one_program replace own own' core core' same (os, are, p) (os', are', q) =
    let beside : AreClassesOf (system_beside replace (map the_file own)) os' =
    subst (λ (fs : List ClassFile). AreClassesOf (system_beside replace fs) os') (sym same) are' in
    let theirs = one_system (system_beside replace (map the_file own)) os os' are beside in
    record {
      program = p.program ∙ (λ i. program_meaning (same i) (theirs i)) ∙ sym q.program;
      names = p.names ∙ (λ i. program_names (same i) (theirs i)) ∙ sym q.names;
      classes = p.classes ∙ (λ i. class_names (same i) ++ class_names (theirs i)) ∙ sym q.classes;
    }
