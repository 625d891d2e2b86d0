-- The statements of a generated text.
use Rattle.std.proofs.Common.{◌*◌, ◌≡◌, ◌≤◌, ◌<◌, ◌+◌, ℕ, zero, suc, List, [], ◌∷◌, ◌++◌, None, append_assoc, refl, sym, subst, arith, lit≤, lit<}
use Rattle.std.specs.Prelude.{codes}
use Rattle.std.proofs.lemmas.List.{append-nil}
use Rattle.jack_tree.specs.declared.token.Keyword.TheVariants as keyword
use Rattle.jack_tree.specs.declared.token.Kind.TheVariants as kind
use Rattle.jack_tree.specs.Syntax.{Terms, NoOperation, Statement, Let, IfElse, Statements, End, Next}
use Rattle.jack_parser.specs.Grammar.{Fixed, Placed}
use Rattle.jack_parser.specs.Spelling.{statement_tokens, statements_tokens}
use Rattle.jack_parser.specs.Limits.{PartsKeepIn, StatementsKeepIn}
use Rattle.soak_program.specs.Generator as generator
use Rattle.soak_program.specs.Generator.{IsVariable, IsLet, IsChoice, IsStatement, IsStatements}
use Rattle.jack_names.specs.Using.{statement_uses, statements_uses}
use Rattle.jack_names.specs.Meaning.{term_meaning, statement_meaning, block_meaning, size, sizes}
use Rattle.jack_names.specs.Numbers.{Standing}
use Rattle.tower.specs.Budget.{statement_words, text_words}
use Rattle.soak_laws.proofs.Words.{cost, let_words}
use Rattle.soak_laws.proofs.Uses.{Each, two, called, Usable, AVariable}
use Rattle.soak_laws.proofs.Pieces.{Places, skip, sum, Piece, both, placed, fixed, nothing}
use Rattle.soak_laws.proofs.Expressions.{lettered, ATerm, expression, opening, closing}

-- The text is that of a statement, wherever it stands, in at most this many levels.
pub record AStatement (most price : ℕ) (x : List ℕ) : Type 0 where
  pub tree : Places → Statement
  pub size : ℕ
  pub piece : Piece size (λ p. statement_tokens (tree p)) x
  pub keeps : (p : Places) (n : ℕ) → n ≤ most → PartsKeepIn n (tree p)
  pub uses : (p : Places) → Each Usable (statement_uses (tree p))
  pub words : (p : Places) (s : Standing) (n : ℕ) → statement_words (statement_meaning s n (tree p)) ≤ price

-- of statements
pub record AreStatements (price : ℕ) (x : List ℕ) : Type 0 where
  pub tree : Places → Statements
  pub size : ℕ
  pub piece : Piece size (λ p. statements_tokens (tree p)) x
  pub keeps : (p : Places) → StatementsKeepIn 0 (tree p)
  pub uses : (p : Places) → Each Usable (statements_uses (tree p))
  pub words : (p : Places) (s : Standing) (n : ℕ) → text_words (block_meaning s n (tree p)) ≤ price

let_key : Piece 1 (λ p. Placed (kind.Keyword keyword.Let) [] (p 0) ∷ []) (codes "let ")
let_key = placed (kind.Keyword keyword.Let) [] (codes "let ") refl refl

if_key : Piece 1 (λ p. Placed (kind.Keyword keyword.If) [] (p 0) ∷ []) (codes "if ")
if_key = placed (kind.Keyword keyword.If) [] (codes "if ") refl refl

else_key : Piece 1 (λ p. Fixed (kind.Keyword keyword.Else) ∷ []) (codes "else ")
else_key = fixed (kind.Keyword keyword.Else) (codes "else ") refl refl

equals : Piece 1 (λ p. Fixed (kind.Symbol 61) ∷ []) (codes "= ")
equals = fixed (kind.Symbol 61) (codes "= ") (refl, refl, refl) refl

semicolon : Piece 1 (λ p. Fixed (kind.Symbol 59) ∷ []) (codes ";\n")
semicolon = fixed (kind.Symbol 59) (codes ";\n") (refl, refl, refl) refl

pub left_brace : Piece 1 (λ p. Fixed (kind.Symbol 123) ∷ []) (codes "{\n")
left_brace = fixed (kind.Symbol 123) (codes "{\n") (refl, refl, refl) refl

pub right_brace : Piece 1 (λ p. Fixed (kind.Symbol 125) ∷ []) (codes "}\n")
right_brace = fixed (kind.Symbol 125) (codes "}\n") (refl, refl, refl) refl

-- the brace that closes a body, whose place is kept
pub placed_brace : Piece 1 (λ p. Placed (kind.Symbol 125) [] (p 0) ∷ []) (codes "}\n")
placed_brace = placed (kind.Symbol 125) [] (codes "}\n") (refl, refl, refl) refl

let_text : (x y : List ℕ) → codes "let " ++ (x ++ (codes "= " ++ ((y ++ []) ++ codes ";\n"))) ≡ codes "let " ++ x ++ codes "= " ++ y ++ codes ";\n"
let_text x y = simp (append_assoc, append-nil)

let_of : (m d n : ℕ) (y : List ℕ) → m ≤ 200 → d ≤ 3 → n < 3 → ATerm d y → AStatement m (cost d + 12) (codes "let " ++ generator.variable_text n ++ codes "= " ++ y ++ codes ";\n")
let_of m d n y low few small e =
    let l = lettered n small in
    let whole = both let_key (both l.piece (both equals (both (both e.piece nothing) semicolon))) in
    record {
      tree = λ p. Let (p 0) (called ((97 + n) ∷ []) (skip 1 p 0)) None (Terms (e.tree (skip 1 (skip 1 (skip 1 p)))) NoOperation);
      size = _;
      piece = subst (Piece _ _) (let_text (generator.variable_text n) y) whole;
      keeps = λ p k h. (tt, (e.keeps _ k (omega (arith, h, few, low)), tt));
      uses = λ p. (AVariable n (omega (arith, small)), two _ _ (e.uses _) tt);
      words = λ p s k. (let a = let_words (s.variable ((97 + n) ∷ [])) k (term_meaning s (e.tree (skip 1 (skip 1 (skip 1 p))))) in let b = e.words (skip 1 (skip 1 (skip 1 p))) s in omega (arith, a, b));
    }

a_let : (m d : ℕ) {s t : ℕ} {x : List ℕ} → m ≤ 200 → d ≤ 3 → IsLet d s x t → AStatement m (cost d + 12) x
a_let m d low few (generator.Let {y = y} (generator.Variable {n = n} {t = t} f) k) = let_of m d n y low few (let a = f.answer in omega (arith, a)) (expression d k)

choice_text : (x y z : List ℕ) → codes "if " ++ ((codes "( " ++ ((x ++ []) ++ codes ") ")) ++ ((codes "{\n" ++ ((y ++ []) ++ codes "}\n")) ++ (codes "else " ++ (codes "{\n" ++ ((z ++ []) ++ codes "}\n"))))) ≡ codes "if ( " ++ x ++ codes ") {\n" ++ y ++ codes "}\nelse {\n" ++ z ++ codes "}\n"
choice_text x y z = simp (append_assoc, append-nil)

choice_of : (x y z : List ℕ) → ATerm 2 x → AStatement 100 84 y → AStatement 100 84 z → AStatement 99 249 (codes "if ( " ++ x ++ codes ") {\n" ++ y ++ codes "}\nelse {\n" ++ z ++ codes "}\n")
choice_of x y z e a b =
    let condition = both opening (both (both e.piece nothing) closing) in
    let way = both left_brace (both (both a.piece nothing) right_brace) in
    let other = both left_brace (both (both b.piece nothing) right_brace) in
    let whole = both if_key (both condition (both way (both else_key other))) in
    record {
      tree = λ p.
          let inside = skip 1 p in
          let body = skip (sum 1 (sum (sum e.size 0) 1)) inside in
          let behind = skip 1 (skip (sum 1 (sum (sum a.size 0) 1)) body) in
          IfElse (p 0) (Terms (e.tree (skip 1 inside)) NoOperation) (Next (a.tree (skip 1 body)) End) (Next (b.tree (skip 1 behind)) End);
      size = _;
      piece = subst (Piece _ _) (choice_text x y z) whole;
      keeps = λ p n h. (omega (arith, h), (e.keeps _ (n + 1) (omega (arith, h)), tt), (omega (arith, h), a.keeps _ (n + 1) (omega (arith, h)), tt), (omega (arith, h), b.keeps _ (n + 1) (omega (arith, h)), tt));
      uses = λ p. two _ _ (two _ _ (e.uses _) tt) (two _ _ (two _ _ (a.uses _) tt) (two _ _ (b.uses _) tt));
      words = λ p s k.
          let inside = skip 1 p in
          let body = skip (sum 1 (sum (sum e.size 0) 1)) inside in
          let behind = skip 1 (skip (sum 1 (sum (sum a.size 0) 1)) body) in
          let if_words = e.words (skip 1 inside) s in
          let one_way = a.words (skip 1 body) s (k + 1) in
          let other_way = b.words (skip 1 behind) s (k + 1 + sizes (Next (a.tree (skip 1 body)) End)) in
          omega (arith, if_words, one_way, other_way);
    }

a_choice : {s t : ℕ} {x : List ℕ} → IsChoice s x t → AStatement 99 249 x
a_choice (generator.Choice {x = x} {y = y} {z = z} h k l) = choice_of x y z (expression 2 h) (a_let 100 2 (lit≤ tt) (lit≤ tt) k) (a_let 100 2 (lit≤ tt) (lit≤ tt) l)

dearer : {m c e : ℕ} {x : List ℕ} → c ≤ e → AStatement m c x → AStatement m e x
dearer h a = record { tree = a.tree; size = a.size; piece = a.piece; keeps = a.keeps; uses = a.uses; words = λ p s n. (let w = a.words p s n in omega (arith, h, w)) }

a_statement : {s t : ℕ} {x : List ℕ} → IsStatement s x t → AStatement 99 249 x
a_statement (generator.Assignment d h k) = dearer (lit≤ tt) (a_let 99 3 (lit≤ tt) (lit≤ tt) k)
a_statement (generator.Either d k) = a_choice k

pub one_more : {c w : ℕ} {x y : List ℕ} → AStatement 99 c x → AreStatements w y → AreStatements (c + w) (x ++ y)
one_more a more = record {
  tree = λ p. Next (a.tree p) (more.tree (skip a.size p));
  size = _;
  piece = both a.piece more.piece;
  keeps = λ p. (lit< tt, a.keeps p 1 (lit≤ tt), more.keeps (skip a.size p));
  uses = λ p. two _ _ (a.uses p) (more.uses (skip a.size p));
  words = λ p s n. (let first = a.words p s n in let rest = more.words (skip a.size p) s (n + size (a.tree p)) in omega (arith, first, rest));
}

-- generated statements before others
pub statements : (n w : ℕ) {s t : ℕ} {x y : List ℕ} → IsStatements n s x t → AreStatements w y → AreStatements (n * 249 + w) (x ++ y)
statements zero w {y = y} generator.None more = subst (λ (c : ℕ). AreStatements c y) (omega arith) more
statements (suc n) w {y = y} (generator.Next {x = x} {y = z} h k) more =
    let whole = one_more (a_statement h) (statements n w k more) in
    let price : 249 + (n * 249 + w) ≡ suc n * 249 + w = omega arith in
    subst (λ (c : ℕ). AreStatements c ((x ++ z) ++ y)) price (subst (AreStatements (249 + (n * 249 + w))) (sym (append_assoc x z y)) whole)
