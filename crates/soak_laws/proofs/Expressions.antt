-- The expression of a generated text.
use Rattle.std.proofs.Common.{◌≡◌, ◌≤◌, ◌<◌, ◌+◌, ◌*◌, ◌/◌, ◌%◌, ℕ, zero, suc, Bool, true, false, cond, List, [], ◌∷◌, ◌++◌, Some, None, append_assoc, slice_get, refl, ap, subst, ◌∙◌, arith}
use Rattle.std.specs.Prelude as prelude
use Rattle.std.specs.Prelude.{codes, ◌==◌, ◌&&◌, ◌||◌, nat_le}
use Rattle.std.specs.List as lists
use Rattle.std.specs.Str.{bytes_eq}
use Rattle.std.proofs.lemmas.List.{append-nil}
use Rattle.std.proofs.lemmas.List.Elements.{All-cons}
use Rattle.scan_text.specs.declared.Place.{Place}
use Rattle.scan_text.specs.Text.{is_digit}
use Rattle.grammar.specs.Printed.{ends_line, set_off}
use Rattle.grammar.proofs.Spaced.{Digits, digits_of, differs}
use Rattle.jack_tree.specs.declared.token.Kind.TheVariants as kind
use Rattle.jack_tree.specs.Tokens.{keyword_of}
use Rattle.jack_tree.specs.Syntax.{Operator, Plus, Minus, Times, Divide, And, Or, Less, Greater, Equal, Sign, Negate, Not, Integer, Terms, NoOperation, Then, Term, Value, Variable, Group, Unary}
use Rattle.grammar.specs.Words.{is_letter, is_name_byte}
use Rattle.jack_parser.specs.Grammar.{Fixed, Placed}
use Rattle.jack_parser.specs.Spelling.{operator_tokens, sign_tokens, term_tokens}
use Rattle.jack_parser.specs.Limits.{TermKeepsIn}
use Rattle.jack_parser.specs.PrintedClass.{IsIdentifier}
use Rattle.soak_program.specs.Generator as generator
use Rattle.soak_program.specs.Generator.{IsNumber, IsLeaf, IsSign, IsExpression, operators}
use Rattle.jack_names.specs.Using.{operator_uses, term_uses}
use Rattle.jack_names.specs.Meaning.{term_meaning}
use Rattle.jack_names.specs.Numbers.{Standing}
use Rattle.tower.specs.Budget.{expression_words}
use Rattle.soak_laws.proofs.Words.{cost, cost_least, variable_words, binary_words}
use Rattle.soak_laws.proofs.Uses.{Each, two, called, Usable, AVariable, AProduct, AQuotient}
use Rattle.soak_laws.proofs.Pieces.{Places, skip, Piece, both, placed, fixed, nothing, printed}

-- ---- Names

no_more : lists.All (λ b. is_name_byte b ≡ true) []
no_more k d h = absurd (omega arith)

more : (b : ℕ) (bs : List ℕ) → is_name_byte b ≡ true → lists.All (λ c. is_name_byte c ≡ true) bs → lists.All (λ c. is_name_byte c ≡ true) (b ∷ bs)
more b bs h k = All-cons (λ c. is_name_byte c ≡ true) b bs h k

-- a name of one letter
letter : (b : ℕ) → is_letter b ≡ true → keyword_of (b ∷ []) ≡ None → IsIdentifier (b ∷ [])
letter b h k = record { first = b; more = []; is = refl; letter = h; names = no_more; free = k }

pub record Lettered (b : ℕ) : Type 0 where
  pub name : IsIdentifier (b ∷ [])
  pub piece : Piece 1 (λ p. Placed kind.Identifier (b ∷ []) (p 0) ∷ []) (b ∷ codes " ")

pub lettered : (n : ℕ) → n < 3 → Lettered (97 + n)
lettered zero h = let i = letter 97 refl refl in record { name = i; piece = placed kind.Identifier (97 ∷ []) (codes "a ") i refl }
lettered (suc zero) h = let i = letter 98 refl refl in record { name = i; piece = placed kind.Identifier (98 ∷ []) (codes "b ") i refl }
lettered (suc (suc zero)) h = let i = letter 99 refl refl in record { name = i; piece = placed kind.Identifier (99 ∷ []) (codes "c ") i refl }
lettered (suc (suc (suc n))) h = absurd (omega arith)

-- ---- Numbers

plain_ends : (b : ℕ) (bs : List ℕ) → is_digit b ≡ true → ends_line (b ∷ bs) ≡ false
plain_ends b bs h =
    let e = differs is_digit b 123 h refl in
    let f = differs is_digit b 125 h refl in
    let g = differs is_digit b 59 h refl in
    λ i. (e i && bytes_eq bs []) || ((f i && bytes_eq bs []) || (g i && bytes_eq bs []))

digits_end : (n : ℕ) (ds : List ℕ) → Digits is_digit n ds → ends_line ds ≡ false
digits_end n [] d = absurd (let some = d.some in omega (arith, some))
digits_end n (b ∷ bs) d = plain_ends b bs d.all.0

number_text : (n : ℕ) → n < 32768 → printed (Fixed (kind.Integer n) ∷ []) ≡ prelude.decimal n ++ codes " "
number_text n h =
    append-nil (set_off (prelude.decimal n))
    ∙ ap (λ (b : Bool). prelude.decimal n ++ cond b 10 32 ∷ []) (digits_end n (prelude.decimal n) (digits_of is_digit refl n (omega (arith, h))))

number_piece : (n : ℕ) → n < 32768 → Piece 1 (λ p. Fixed (kind.Integer n) ∷ []) (prelude.decimal n ++ codes " ")
number_piece n h = fixed (kind.Integer n) (prelude.decimal n ++ codes " ") (omega arith, refl) (number_text n h)

-- ---- Operators and signs

record AnOperator (o : ℕ) : Type 0 where
  operator : Operator
  piece : Piece 1 (λ p. operator_tokens operator (p 0)) (o ∷ codes " ")
  uses : (at : Place) → Each Usable (operator_uses operator at)

operator_at : (b : ℕ) (o : Operator) → Piece 1 (λ p. operator_tokens o (p 0)) (b ∷ codes " ") → ((at : Place) → Each Usable (operator_uses o at)) → (c : ℕ) → Some b ≡ Some c → AnOperator c
operator_at b o piece uses c e = let same : b ≡ c = cc in subst AnOperator same (record { operator = o; piece = piece; uses = uses })

an_operator : (k o : ℕ) → slice_get operators k ≡ Some o → AnOperator o
an_operator zero o e = operator_at 43 Plus (placed (kind.Symbol 43) [] (codes "+ ") (refl, refl, refl) refl) (λ at. tt) o e
an_operator (suc zero) o e = operator_at 45 Minus (placed (kind.Symbol 45) [] (codes "- ") (refl, refl, refl) refl) (λ at. tt) o e
an_operator (suc (suc zero)) o e = operator_at 42 Times (placed (kind.Symbol 42) [] (codes "* ") (refl, refl, refl) refl) (λ at. (AProduct, tt)) o e
an_operator (suc (suc (suc zero))) o e = operator_at 47 Divide (placed (kind.Symbol 47) [] (codes "/ ") (refl, refl, refl) refl) (λ at. (AQuotient, tt)) o e
an_operator (suc (suc (suc (suc zero)))) o e = operator_at 38 And (placed (kind.Symbol 38) [] (codes "& ") (refl, refl, refl) refl) (λ at. tt) o e
an_operator (suc (suc (suc (suc (suc zero))))) o e = operator_at 124 Or (placed (kind.Symbol 124) [] (codes "| ") (refl, refl, refl) refl) (λ at. tt) o e
an_operator (suc (suc (suc (suc (suc (suc zero)))))) o e = operator_at 60 Less (placed (kind.Symbol 60) [] (codes "< ") (refl, refl, refl) refl) (λ at. tt) o e
an_operator (suc (suc (suc (suc (suc (suc (suc zero))))))) o e = operator_at 62 Greater (placed (kind.Symbol 62) [] (codes "> ") (refl, refl, refl) refl) (λ at. tt) o e
an_operator (suc (suc (suc (suc (suc (suc (suc (suc zero)))))))) o e = operator_at 61 Equal (placed (kind.Symbol 61) [] (codes "= ") (refl, refl, refl) refl) (λ at. tt) o e
an_operator (suc (suc (suc (suc (suc (suc (suc (suc (suc k))))))))) o e = absurd cc

record ASign (x : List ℕ) : Type 0 where
  sign : Sign
  piece : Piece 1 (λ p. sign_tokens sign) x

a_sign : {s t : ℕ} {x : List ℕ} → IsSign s x t → ASign x
a_sign (generator.Negation d) = record { sign = Negate; piece = fixed (kind.Symbol 45) (codes "- ") (refl, refl, refl) refl }
a_sign (generator.Complement d) = record { sign = Not; piece = fixed (kind.Symbol 126) (codes "~ ") (refl, refl, refl) refl }

-- ---- Terms

-- The text is that of a term, wherever it stands.
pub record ATerm (d : ℕ) (x : List ℕ) : Type 0 where
  pub tree : Places → Term
  pub size : ℕ
  pub piece : Piece size (λ p. term_tokens (tree p)) x
  pub keeps : (p : Places) (n : ℕ) → n + 2 * d ≤ 256 → TermKeepsIn n (tree p)
  pub uses : (p : Places) → Each Usable (term_uses (tree p))
  pub words : (p : Places) (s : Standing) → expression_words (term_meaning s (tree p)) ≤ cost d

variable : (d n : ℕ) → n < 3 → ATerm d (generator.variable_text n)
variable d n h = record {
  tree = λ p. Variable (called ((97 + n) ∷ []) (p 0));
  size = 1;
  piece = (lettered n h).piece;
  keeps = λ p m k. tt;
  uses = λ p. (AVariable n (omega (arith, h)), tt);
  words = λ p s. (let a = variable_words (s.variable ((97 + n) ∷ [])) in let b = cost_least d in omega (arith, a, b));
}

a_number : (d k : ℕ) {s t : ℕ} {x : List ℕ} → ((m : ℕ) → m % k < 32768) → IsNumber k s x t → ATerm d x
a_number d k few (generator.Number {n = n} {t = t} e) =
    let small : n < 32768 = (let a = e.answer in let b = few (t / 65536) in omega (arith, a, b)) in
    record {
      tree = λ p. Value (Integer n);
      size = 1;
      piece = number_piece n small;
      keeps = λ p m k. tt;
      uses = λ p. tt;
      words = λ p s. cost_least d;
    }

leaf : (d : ℕ) {s t : ℕ} {x : List ℕ} → IsLeaf s x t → ATerm d x
leaf d (generator.OfVariable {n = n} e h) = variable d n h
leaf d (generator.Large e x) = a_number d 32768 (λ m. omega arith) x
leaf d (generator.Small e x) = a_number d 10 (λ m. omega arith) x

pub opening : Piece 1 (λ p. Fixed (kind.Symbol 40) ∷ []) (codes "( ")
opening = fixed (kind.Symbol 40) (codes "( ") (refl, refl, refl) refl

pub closing : Piece 1 (λ p. Fixed (kind.Symbol 41) ∷ []) (codes ") ")
closing = fixed (kind.Symbol 41) (codes ") ") (refl, refl, refl) refl

pair_text : (x y o : List ℕ) → codes "( " ++ ((x ++ (o ++ (y ++ []))) ++ codes ") ") ≡ codes "( " ++ x ++ o ++ y ++ codes ") "
pair_text x y o = simp (append_assoc, append-nil)

pair : (d o : ℕ) (x y : List ℕ) → AnOperator o → ATerm d x → ATerm d y → ATerm (suc d) (codes "( " ++ x ++ o ∷ codes " " ++ y ++ codes ") ")
pair d o x y sign l r =
    let n = l.size in
    let whole = both opening (both (both l.piece (both sign.piece (both r.piece nothing))) closing) in
    record {
      tree = λ p. Group (Terms (l.tree (skip 1 p)) (Then sign.operator (skip n (skip 1 p) 0) (r.tree (skip 1 (skip n (skip 1 p)))) NoOperation));
      size = _;
      piece = subst (Piece _ _) (pair_text x y (o ∷ codes " ")) whole;
      keeps = λ p m h. (omega (arith, h), (l.keeps _ (m + 1) (omega (arith, h)), (r.keeps _ (m + 1) (omega (arith, h)), tt)));
      uses = λ p. two _ _ (l.uses _) (two _ _ (two _ _ (sign.uses _) (r.uses _)) tt);
      words = λ p s.
          let left = l.words (skip 1 p) s in
          let right = r.words (skip 1 (skip n (skip 1 p))) s in
          let whole = binary_words s sign.operator (term_meaning s (l.tree (skip 1 p))) (term_meaning s (r.tree (skip 1 (skip n (skip 1 p))))) in
          omega (arith, left, right, whole);
    }

signed_text : (o x : List ℕ) → codes "( " ++ (((o ++ x) ++ []) ++ codes ") ") ≡ codes "( " ++ o ++ x ++ codes ") "
signed_text o x = simp (append_assoc, append-nil)

signed : (d : ℕ) (o x : List ℕ) → ASign o → ATerm d x → ATerm (suc d) (codes "( " ++ o ++ x ++ codes ") ")
signed d o x sign t =
    let whole = both opening (both (both (both sign.piece t.piece) nothing) closing) in
    record {
      tree = λ p. Group (Terms (Unary sign.sign (t.tree (skip 1 (skip 1 p)))) NoOperation);
      size = _;
      piece = subst (Piece _ _) (signed_text o x) whole;
      keeps = λ p m h. (omega (arith, h), ((omega (arith, h), t.keeps _ (m + 1 + 1) (omega (arith, h))), tt));
      uses = λ p. two _ _ (t.uses _) tt;
      words = λ p s. (let a = t.words (skip 1 (skip 1 p)) s in omega (arith, a));
    }

pub expression : (d : ℕ) {s t : ℕ} {x : List ℕ} → IsExpression d s x t → ATerm d x
expression zero (generator.Flat h) = leaf 0 h
expression (suc d) (generator.Leaf e h) = leaf (suc d) h
expression (suc d) (generator.Pair {k = k} {o = o} {x = x} {y = y} e f is p q) = pair d o x y (an_operator k o is) (expression d p) (expression d q)
expression (suc d) (generator.Signed {sign = o} {x = x} e f p q) = signed d o x (a_sign p) (expression d q)
