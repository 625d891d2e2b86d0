-- The class of a generated text.
use Rattle.std.proofs.Common.{◌≡◌, ◌≤◌, ℕ, suc, Bool, true, false, cond, List, [], ◌∷◌, ◌++◌, Some, None, Ok, append_assoc, length, refl, sym, subst, arith, lit≤, lit<}
use Rattle.std.specs.Prelude.{codes}
use Rattle.std.specs.List as lists
use Rattle.std.proofs.lemmas.List.{append-nil}
use Rattle.std.proofs.lemmas.List.Elements.{All-cons}
use Rattle.std.proofs.lemmas.Fmt.{decimal_digit}
use Rattle.scan_text.specs.Text.{start}
use Rattle.grammar.specs.Printed.{set_off}
use Rattle.grammar.proofs.Spaced.{every}
use Rattle.jack_tree.specs.declared.token.Keyword.TheVariants as keyword
use Rattle.jack_tree.specs.Tokens.{keyword_of}
use Rattle.jack_tree.specs.Syntax.{Integer, Terms, NoOperation, Value, Variable, Called, Calls, More, NoExpression, Let, Return, Statement, Statements, End, Next, Int, Object, Static, Function, Subroutine, Class}
use Rattle.grammar.specs.Words.{is_letter, is_name_byte}
use Rattle.jack_lexer.specs.Tokens.{tokens_of}
use Rattle.jack_parser.specs.Spelling.{Tokens, ◌·◌, key, name, symbol, Say, class_tokens}
use Rattle.jack_parser.specs.Limits.{StatementsKeepIn, KeepsLimits}
use Rattle.jack_parser.specs.Spelled.{SpellsClass}
use Rattle.jack_parser.specs.PrintedClass.{IsIdentifier, printed_class, PrintedClassLaw}
use Rattle.soak_program.specs.Generator as generator
use Rattle.soak_program.specs.Generator.{head, tail, IsProgramText}
use Rattle.soak_program.specs.Laws.{LengthLaw}
use Rattle.jack_names.specs.Using.{statements_uses}
use Rattle.jack_meaning.specs.Text as meaning
use Rattle.jack_names.specs.Meaning.{term_meaning, block_meaning}
use Rattle.jack_names.specs.Numbers.{Standing}
use Rattle.tower.specs.Budget.{text_words}
use Rattle.soak_laws.proofs.Words.{variable_words, object_words, let_words}
use Rattle.soak_laws.proofs.Uses.{Each, called, Usable, AVariable, AClass, ACall}
use Rattle.soak_laws.proofs.Pieces.{Places, places, skip, says_there, Piece, both, nothing}
use Rattle.scan_text.specs.declared.Place.{Place}
use Rattle.soak_laws.proofs.Statements.{AStatement, AreStatements, one_more, statements, placed_brace, right_brace}

names_by : (b : ℕ) (bs : List ℕ) (t : Bool) → is_name_byte b ≡ t → (every is_name_byte bs ≡ true → lists.All (λ c. is_name_byte c ≡ true) bs) → cond t (every is_name_byte bs) false ≡ true → lists.All (λ c. is_name_byte c ≡ true) (b ∷ bs)
names_by b bs true h go k = All-cons (λ c. is_name_byte c ≡ true) b bs h (go k)
names_by b bs false h go k = absurd cc

all_names : (bs : List ℕ) → every is_name_byte bs ≡ true → lists.All (λ b. is_name_byte b ≡ true) bs
all_names [] e = λ k d h. absurd (omega arith)
all_names (b ∷ bs) e = names_by b bs (is_name_byte b) refl (λ k. all_names bs k) e

identifier : (b : ℕ) (bs : List ℕ) → is_letter b ≡ true → every is_name_byte bs ≡ true → keyword_of (b ∷ bs) ≡ None → IsIdentifier (b ∷ bs)
identifier b bs h k e = record { first = b; more = bs; is = refl; letter = h; names = all_names bs k; free = e }

name_a : IsIdentifier (codes "a")
name_a = identifier 97 [] refl refl refl

name_b : IsIdentifier (codes "b")
name_b = identifier 98 [] refl refl refl

name_c : IsIdentifier (codes "c")
name_c = identifier 99 [] refl refl refl

name_d : IsIdentifier (codes "d")
name_d = identifier 100 [] refl refl refl

name_array : IsIdentifier (codes "Array")
name_array = identifier 65 (codes "rray") refl refl refl

name_new : IsIdentifier (codes "new")
name_new = identifier 110 (codes "ew") refl refl refl

name_main : IsIdentifier (codes "main")
name_main = identifier 109 (codes "ain") refl refl refl

name_class : IsIdentifier (codes "Main")
name_class = identifier 77 (codes "ain") refl refl refl

-- ---- The last statements

abbrev last : Places → Statements
last p =
    Next (Let (p 0) (called (codes "d") (p 1)) (Some (Terms (Value (Integer 0)) NoOperation)) (Terms (Variable (called (codes "a") (p 6))) NoOperation))
    (Next (Let (p 8) (called (codes "d") (p 9)) (Some (Terms (Value (Integer 1)) NoOperation)) (Terms (Variable (called (codes "b") (p 14))) NoOperation))
    (Next (Let (p 16) (called (codes "d") (p 17)) (Some (Terms (Value (Integer 2)) NoOperation)) (Terms (Variable (called (codes "c") (p 22))) NoOperation))
    (Next (Return (p 24) None) End)))

abbrev last_text : List ℕ
last_text = codes "let d [ 0 ] = a ;\nlet d [ 1 ] = b ;\nlet d [ 2 ] = c ;\nreturn ;\n"

last_statements : AreStatements 182 last_text
last_statements = record {
  tree = last;
  size = 26;
  piece = record {
    long = λ p. refl;
    moves = λ p q. refl;
    text = λ p i. codes "let d [ " ++ (set_off (decimal_digit 0 (lit< tt) i) ++ (codes "] = a ;\nlet d [ " ++ (set_off (decimal_digit 1 (lit< tt) i) ++ (codes "] = b ;\nlet d [ " ++ (set_off (decimal_digit 2 (lit< tt) i) ++ codes "] = c ;\nreturn ;\n")))));
    can = λ p. (refl, (name_d, ((refl, refl, refl), ((lit≤ tt, refl), ((refl, refl, refl), ((refl, refl, refl), (name_a, ((refl, refl, refl), (refl, (name_d, ((refl, refl, refl), ((lit≤ tt, refl), ((refl, refl, refl), ((refl, refl, refl), (name_b, ((refl, refl, refl), (refl, (name_d, ((refl, refl, refl), ((lit≤ tt, refl), ((refl, refl, refl), ((refl, refl, refl), (name_c, ((refl, refl, refl), (refl, ((refl, refl, refl), tt))))))))))))))))))))))))));
  };
  keeps = λ p. (lit< tt, ((lit< tt, (tt, tt)), (tt, tt)), (lit< tt, ((lit< tt, (tt, tt)), (tt, tt)), (lit< tt, ((lit< tt, (tt, tt)), (tt, tt)), (lit< tt, tt, tt))));
  uses = λ p. (AVariable 3 (lit< tt), (AVariable 0 (lit< tt), (AVariable 3 (lit< tt), (AVariable 1 (lit< tt), (AVariable 3 (lit< tt), (AVariable 2 (lit< tt), tt))))));
  words = λ p s n.
      let d = variable_words (s.variable (codes "d")) in
      let a = variable_words (s.variable (codes "a")) in
      let b = variable_words (s.variable (codes "b")) in
      let c = variable_words (s.variable (codes "c")) in
      omega (arith, a, b, c, d);
}

-- ---- The first one

abbrev array_new : Places → Statement
array_new p = Let (p 0) (called (codes "d") (p 1)) None (Terms (Called (Calls (Some (called (codes "Array") (p 3))) (called (codes "new") (p 5)) (More (Terms (Value (Integer 8)) NoOperation) NoExpression))) NoOperation)

first_statement : AStatement 99 42 (codes "let d = Array . new ( 8 ) ;\n")
first_statement = record {
  tree = array_new;
  size = 10;
  piece = record {
    long = λ p. refl;
    moves = λ p q. refl;
    text = λ p i. codes "let d = Array . new ( " ++ (set_off (decimal_digit 8 (lit< tt) i) ++ codes ") ;\n");
    can = λ p. (refl, (name_d, ((refl, refl, refl), (name_array, ((refl, refl, refl), (name_new, ((refl, refl, refl), ((lit≤ tt, refl), ((refl, refl, refl), ((refl, refl, refl), tt))))))))));
  };
  keeps = λ p n h. (tt, ((omega (arith, h), lit≤ tt, (tt, tt), tt), tt));
  uses = λ p. (AVariable 3 (lit< tt), (AClass, (ACall, tt)));
  words = λ p s n.
      let made = object_words (s.variable (codes "Array")) (meaning.More (meaning.Literal 8) meaning.NoMore) in
      let whole = let_words (s.variable (codes "d")) n (term_meaning s (Called (Calls (Some (called (codes "Array") (p 3))) (called (codes "new") (p 5)) (More (Terms (Value (Integer 8)) NoOperation) NoExpression)))) in
      omega (arith, made, whole);
}

-- ---- The class

-- its only subroutine, with its statements and the brace that closes them
abbrev pub main_of : (Places → Statements) → (Places → Place) → Places → Subroutine
main_of body close p = record {
  form = Function;
  result = None;
  name = called (codes "main") (p 17);
  parameters = [];
  locals = [];
  statements = body (skip 21 p);
  close = close (skip 21 p);
}

abbrev pub class_at : (Places → Statements) → (Places → Place) → Places → Class
class_at body close p = record {
  name = called (codes "Main") (p 1);
  variables =
      record { scope = Static; type = Int; names = record { first = called (codes "a") (p 5); more = called (codes "b") (p 7) ∷ called (codes "c") (p 9) ∷ [] } }
      ∷ record { scope = Static; type = Object (called (codes "Array") (p 12)); names = record { first = called (codes "d") (p 13); more = [] } } ∷ [];
  subroutines = main_of body close p ∷ [];
}

-- the tokens before the statements
abbrev front : Places → Tokens
front p =
    key keyword.Class · name (called (codes "Main") (p 1)) · symbol (codes "{") · key keyword.Static · key keyword.Int · name (called (codes "a") (p 5)) · symbol (codes ",")
    · name (called (codes "b") (p 7)) · symbol (codes ",") · name (called (codes "c") (p 9)) · symbol (codes ";") · key keyword.Static · name (called (codes "Array") (p 12)) · name (called (codes "d") (p 13))
    · symbol (codes ";") · key keyword.Function · key keyword.Void · name (called (codes "main") (p 17)) · symbol (codes "(") · symbol (codes ")") · symbol (codes "{")

front_piece : Piece 21 front (codes "class Main {\nstatic int a , b , c ;\nstatic Array d ;\nfunction void main ( ) {\n")
front_piece = record { long = λ p. refl; moves = λ p q. refl; text = λ p. refl; can = λ p. (refl, (name_class, ((refl, refl, refl), (refl, (refl, (name_a, ((refl, refl, refl), (name_b, ((refl, refl, refl), (name_c, ((refl, refl, refl), (refl, (name_array, (name_d, ((refl, refl, refl), (refl, (refl, (name_main, ((refl, refl, refl), ((refl, refl, refl), ((refl, refl, refl), tt))))))))))))))))))))) }

record AClassOf (x : List ℕ) : Type 0 where
  body : Places → Statements
  close : Places → Place
  size : ℕ
  piece : Piece size (λ p. class_tokens (class_at body close p)) x
  keeps : (p : Places) → StatementsKeepIn 0 (body p)
  uses : (p : Places) → Each Usable (statements_uses (body p))
  words : (p : Places) (s : Standing) (n : ℕ) → text_words (block_meaning s n (body p)) ≤ 1718

program_text : (x : List ℕ) → codes "class Main {\nstatic int a , b , c ;\nstatic Array d ;\nfunction void main ( ) {\n" ++ ((((codes "let d = Array . new ( 8 ) ;\n" ++ (x ++ last_text)) ++ codes "}\n") ++ []) ++ codes "}\n") ≡ head ++ x ++ tail
program_text x = simp (append_assoc, append-nil)

a_class : {s t : ℕ} {x : List ℕ} → IsProgramText s x t → AClassOf x
a_class (generator.Program {n = n} {t = t} {x = x} d h) =
    let few : n ≤ 5 = (let a = d.answer in omega (arith, a)) in
    let all = one_more first_statement (statements (suc n) 182 h last_statements) in
    record {
      body = all.tree;
      close = λ p. skip all.size p 0;
      size = _;
      piece = subst (Piece _ _) (program_text x) (both front_piece (both (both (both all.piece placed_brace) nothing) right_brace));
      keeps = all.keeps;
      uses = all.uses;
      words = λ p s k. (let w = all.words p s k in omega (arith, w, few));
    }

-- ---- The text spells the class where the tokens stand

pub record Generated (text : List ℕ) : Type 0 where
  pub body : Places → Statements
  pub close : Places → Place
  pub at : Places
  pub spells : SpellsClass text (class_at body close at)
  pub uses : Each Usable (statements_uses (body (skip 21 at)))
  pub words : (s : Standing) (n : ℕ) → text_words (block_meaning s n (body (skip 21 at))) ≤ 1718

module _ (law : PrintedClassLaw) (short : LengthLaw) where
  limits : (body : Places → Statements) (close : Places → Place) (p : Places) → StatementsKeepIn 0 (body (skip 21 p)) → KeepsLimits (class_at body close p)
  limits body close p h = record { statics = lit≤ tt; fields = lit≤ tt; subroutines = (record { parameters = lit≤ tt; locals = lit≤ tt; statements = h }, tt) }

  pub generated : {s t : ℕ} {text : List ℕ} → IsProgramText s text t → Generated text
  generated {s} {t} {text} h =
      let a = a_class h in
      let nowhere : Places = λ i. start in
      let c = class_at a.body a.close nowhere in
      let text_is : printed_class c ≡ text = a.piece.text nowhere in
      let long : length (printed_class c) ≤ 1048576 = (let l = short s t text h in subst (λ (l : List ℕ). length l ≤ 1048576) (sym text_is) (omega (arith, l))) in
      let tokens = law.again c (limits a.body a.close nowhere (a.keeps (skip 21 nowhere))) (a.piece.can nowhere) long in
      let there = places tokens.tokens in
      record {
        body = a.body;
        close = a.close;
        at = there;
        spells = record {
          tokens = tokens.tokens;
          cut = subst (λ (l : List ℕ). tokens_of l ≡ Ok tokens.tokens) text_is tokens.cut;
          say = subst (Say tokens.tokens) (a.piece.moves there nowhere) (says_there tokens.tokens (class_tokens c) tokens.tell);
          limits = limits a.body a.close there (a.keeps (skip 21 there));
        };
        uses = a.uses (skip 21 there);
        words = λ s n. a.words (skip 21 there) s n;
      }
