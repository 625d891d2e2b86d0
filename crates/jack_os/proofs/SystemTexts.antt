-- The texts of the operating system spell classes: a computation for each.
use Rattle.std.proofs.Common.{◌≡◌, ℕ, List, [], ◌∷◌, true, map, codes, refl, sym, ap, ◌∙◌}
use Rattle.jack_tree.specs.declared.tree.Class as code
use Rattle.jack_tree.specs.Syntax.{Class, ClassFile}
use Rattle.jack_tree.specs.Seen.{the_class, the_file}
use Rattle.jack_parser.specs.Spelled as spelling
use Rattle.jack_parser.proofs.Spelt.{one_class}
use Rattle.jack_os.specs.declared.shipped.TheConstants.{ARRAY, KEYBOARD, MATH, MEMORY, OUTPUT, SCREEN, STRING, SYS}
use Rattle.jack_os.specs.System.{Texts, IsClassOf, AreClassesOf, IsFileOf, AreFilesOf, SystemLaw, added_to, with_added, system}
use Rattle.jack_parser.proofs.Decided.{is_spelled, class_in, spelled}

array : is_spelled ARRAY.now ≡ true
array = refl

keyboard : is_spelled KEYBOARD.now ≡ true
keyboard = refl

math : is_spelled MATH.now ≡ true
math = refl

memory : is_spelled MEMORY.now ≡ true
memory = refl

output : is_spelled OUTPUT.now ≡ true
output = refl

screen : is_spelled SCREEN.now ≡ true
screen = refl

string : is_spelled STRING.now ≡ true
string = refl

sys : is_spelled SYS.now ≡ true
sys = refl

-- the class of a file that is one of the system's
abbrev pub file_of : List ℕ → List ℕ → ClassFile
file_of file text = with_added (added_to file) (record { file = file; class = class_in text })

abbrev pub system_classes : List ClassFile
system_classes =
    file_of (codes "Array.jack") ARRAY.now ∷ file_of (codes "Keyboard.jack") KEYBOARD.now ∷ file_of (codes "Math.jack") MATH.now ∷ file_of (codes "Memory.jack") MEMORY.now
    ∷ file_of (codes "Output.jack") OUTPUT.now ∷ file_of (codes "Screen.jack") SCREEN.now ∷ file_of (codes "String.jack") STRING.now ∷ file_of (codes "Sys.jack") SYS.now ∷ []

pub are_files : AreFilesOf system system_classes
unfolding system
are_files =
    ((class_in ARRAY.now, spelled ARRAY.now array, refl), ((class_in KEYBOARD.now, spelled KEYBOARD.now keyboard, refl), ((class_in MATH.now, spelled MATH.now math, refl), ((class_in MEMORY.now, spelled MEMORY.now memory, refl), ((class_in OUTPUT.now, spelled OUTPUT.now output, refl), ((class_in SCREEN.now, spelled SCREEN.now screen, refl), ((class_in STRING.now, spelled STRING.now string, refl), ((class_in SYS.now, spelled SYS.now sys, refl), tt))))))))

-- each text spells a class
abbrev pub AllSpell : Texts → Type 0
AllSpell [] = Unit {0}
AllSpell (f ∷ fs) = ((c : Class) × spelling.SpellsClass f.1 c) × AllSpell fs

each_spells : (fs : Texts) (cs : List ClassFile) → AreFilesOf fs cs → AllSpell fs
each_spells [] [] h = tt
each_spells [] (c ∷ cs) h = absurd h
each_spells (f ∷ fs) [] h = absurd h
each_spells (f ∷ fs) (c ∷ cs) h = let r = h.0 in ((r.0, r.1), each_spells fs cs h.1)

pub all_spell : AllSpell system
all_spell = each_spells system system_classes are_files

one_file : (file text : List ℕ) (c d : ClassFile) → IsFileOf file text c → IsFileOf file text d → c ≡ d
one_file file text c d (r, spells, adds) (t, spells', adds') =
    adds ∙ ap (λ (k : Class). with_added (added_to file) (record { file = file; class = k })) ((one_class text).one r t spells spells') ∙ sym adds'

pub one_list : (fs : Texts) (cs ds : List ClassFile) → AreFilesOf fs cs → AreFilesOf fs ds → cs ≡ ds
one_list [] [] [] h k = refl
one_list [] [] (d ∷ ds) h k = absurd k
one_list [] (c ∷ cs) ds h k = absurd h
one_list (f ∷ fs) [] ds h k = absurd h
one_list (f ∷ fs) (c ∷ cs) [] h k = absurd k
one_list (f ∷ fs) (c ∷ cs) (d ∷ ds) h k =
    let p = one_file f.0 f.1 c d h.0 k.0 in
    let q = one_list fs cs ds h.1 k.1 in
    λ i. p i ∷ q i

-- the classes of the code are seen as those
seen_file : (file text : List ℕ) (c : code.Class) → IsClassOf file text c → IsFileOf file text (the_file c)
seen_file file text c (r, spells, adds) =
    (the_class r, spells.0, adds ∙ ap (λ (n : List ℕ). with_added (added_to file) (record { file = n; class = the_class r })) spells.1)

pub seen_files : (fs : Texts) (cs : List code.Class) → AreClassesOf fs cs → AreFilesOf fs (map the_file cs)
seen_files [] [] h = tt
seen_files [] (c ∷ cs) h = absurd h
seen_files (f ∷ fs) [] h = absurd h
seen_files (f ∷ fs) (c ∷ cs) h = (seen_file f.0 f.1 c h.0, seen_files fs cs h.1)

pub system_law : SystemLaw
system_law =
    record {
      classes = system_classes;
      are = are_files;
      one = λ cs h. one_list system cs system_classes h are_files;
      read = λ cs h. one_list system (map the_file cs) system_classes (seen_files system cs h) are_files;
    }
