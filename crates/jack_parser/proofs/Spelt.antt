-- A class that a text spells is read from it.
use Rattle.std.proofs.Common.{◌≡◌, ℕ, List, [], ◌∷◌, Result, Ok, Err, refl, ap, sym, subst, ◌∙◌}
use Rattle.grammar.specs.declared.Fault.{Fault}
use Rattle.grammar.specs.declared.ReadError.{ReadError}
use Rattle.grammar.specs.declared.ReadError.TheVariants as errors
use Rattle.grammar.specs.Reading.{Halt, Gives, Because}
use Rattle.grammar.specs.Rules.{Tree}
use Rattle.grammar.specs.Texts.{OneReading}
use Rattle.std.specs.Prelude.{IfOk, IfErr}
use Rattle.grammar.proofs.Exact.{only}
use Rattle.grammar.proofs.Wholes.{one_reading}
use Rattle.jack_tree.specs.declared.tree.Class as code
use Rattle.jack_tree.specs.Syntax.{Class}
use Rattle.jack_tree.specs.Seen.{the_class}
use Rattle.jack_tree.specs.Tokens.{Word}
use Rattle.jack_lexer.specs.Tokens.{tokens_of, finish}
use Rattle.jack_parser.specs.Grammar.{jack, Said, fresh, whole}
use Rattle.jack_parser.specs.Spelling.{Tokens, Say, class_tokens}
use Rattle.jack_parser.specs.Spelled.{SpellsClass}
use Rattle.jack_parser.specs.Spells as code_whole
use Rattle.jack_parser.specs.Spells.{Spells, Refuses}
use Rattle.jack_parser.proofs.Saying.{SayFront}
use Rattle.jack_parser.proofs.PlainTrees.{whole_tree}
use Rattle.jack_parser.proofs.SameTrees as seen
use Rattle.jack_parser.proofs.SameClass.{class_same}
use Rattle.jack_parser.proofs.BuiltClasses.{class_reads}

pub say_front : (ts : List Word) (vs : Tokens) → Say ts vs → SayFront vs ts []
say_front [] [] h = refl
say_front [] (v ∷ vs) h = absurd h
say_front (t ∷ ts) [] h = absurd h
say_front (t ∷ ts) (v ∷ vs) h = (h.0, say_front ts vs h.1)

pub spelt : (text : List ℕ) (c : Class) → SpellsClass text c → Spells text (whole_tree c)
spelt text c s =
    let r = class_reads (finish text) c s.tokens s.limits (record { told = say_front s.tokens (class_tokens c) s.say }) in
    (s.tokens, r.0, s.cut, r.1)

-- what is spelled so the grammar reads
pub read_so : (text : List ℕ) (k : code.Class) → SpellsClass text (the_class k) → Spells text (code_whole.whole_tree k)
read_so text k s = subst (Spells text) (sym (seen.class_same k)) (spelt text (the_class k) s)

pub one_class : (text : List ℕ) → OneReading Class (SpellsClass text) (Refuses text)
one_class text =
    let law = one_reading (jack (finish text)) whole (fresh 0) (tokens_of text) in
    record {
      one = λ c d p q. class_same c d (law.one (whole_tree c) (whole_tree d) (spelt text c p) (spelt text d q));
      one_fault = law.one_fault;
      not_both = λ c f p q. law.not_both (whole_tree c) f (spelt text c p) q;
    }

pub class_is : (k : code.Class) (c : Class) → whole_tree c ≡ code_whole.whole_tree k → c ≡ the_class k
class_is k c e = class_same c (the_class k) (e ∙ seen.class_same k)

ok_tree : (x y : Tree Said) → ◌≡◌ {A = Result (Tree Said) Fault} (Ok x) (Ok y) → x ≡ y
ok_tree x y e = cc

because_is : (x : Tree Said) (c : Class) (e : ReadError) → Because (λ f. ◌≡◌ {A = Result (Tree Said) Fault} (Ok x) (Err f)) e → Because (λ f. ◌≡◌ {A = Result Class Fault} (Ok c) (Err f)) e
because_is x c errors.Memory h = tt
because_is x c (errors.Fault f) h = absurd cc

-- what gives the tree of a class gives the class
pub gives_class : (c : Class) (r : Result code.Class ReadError) → Gives code_whole.whole_tree r (Ok (whole_tree c)) → Gives the_class r (Ok c)
gives_class c (Ok k) h = ap Ok (class_is k c (ok_tree (whole_tree c) (code_whole.whole_tree k) h))
gives_class c (Err e) h = because_is (whole_tree c) c e h

-- a reader that finds what is spelled and gives the fault that stands finds the class
pub only_class : (text : List ℕ) (r : Result code.Class ReadError) → IfOk r (λ k. Spells text (code_whole.whole_tree k)) → IfErr r (Halt (Refuses text)) → (c : Class) → SpellsClass text c → Gives the_class r (Ok c)
only_class text r found fault c s =
    let law = one_reading (jack (finish text)) whole (fresh 0) (tokens_of text) in
    gives_class c r (only code_whole.whole_tree (Spells text) (Refuses text) law.one law.not_both law.one_fault r (whole_tree c) found fault (spelt text c s))
