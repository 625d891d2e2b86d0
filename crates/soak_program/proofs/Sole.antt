-- In each state there is one text of each rule.
use Rattle.std.proofs.Common.{◌≡◌, ◌<◌, ◌/◌, ◌%◌, ℕ, zero, suc, List, [], ◌∷◌, ◌++◌, Some, codes, decimal, slice_get, refl, sym, ap, ◌∙◌, arith, lit<}
use Rattle.soak_program.specs.Generator.{next, IsDraw, IsNumber, Number, variable_text, IsVariable, Variable, IsLeaf, OfVariable, Large, Small, IsSign, Negation, Complement, operators, IsExpression, Flat, Leaf, Pair, Signed, IsLet, Let, IsChoice, Choice, IsStatement, Assignment, Either, IsStatements, None, Next, head, tail, IsProgramText, Program}
use Rattle.soak_program.specs.Laws.{OneTextLaw}

-- ---- There is one

record Has (R : ℕ → List ℕ → ℕ → Type 0) (s : ℕ) : Type 0 where
  text : List ℕ
  after : ℕ
  has : R s text after

draw : (k s : ℕ) → IsDraw k s (next s / 65536 % k) (next s)
draw k s = record { after = refl; answer = refl }

number : (k s : ℕ) → Has (IsNumber k) s
number k s = record { text = _; after = _; has = Number (draw k s) }

variable : (s : ℕ) → Has IsVariable s
variable s = record { text = _; after = _; has = Variable (draw 3 s) }

leaf_by : (s t n : ℕ) → n < 5 → IsDraw 5 s n t → Has IsLeaf s
leaf_by s t zero h d = record { text = _; after = t; has = OfVariable d (lit< tt) }
leaf_by s t (suc zero) h d = record { text = _; after = t; has = OfVariable d (lit< tt) }
leaf_by s t (suc (suc zero)) h d = record { text = _; after = t; has = OfVariable d (lit< tt) }
leaf_by s t (suc (suc (suc zero))) h d = let x = number 32768 t in record { text = x.text; after = x.after; has = Large d x.has }
leaf_by s t (suc (suc (suc (suc zero)))) h d = let x = number 10 t in record { text = x.text; after = x.after; has = Small d x.has }
leaf_by s t (suc (suc (suc (suc (suc n))))) h d = absurd (omega arith)

leaf : (s : ℕ) → Has IsLeaf s
leaf s = leaf_by s (next s) _ (omega arith) (draw 5 s)

sign_by : (s t n : ℕ) → n < 2 → IsDraw 2 s n t → Has IsSign s
sign_by s t zero h d = record { text = _; after = t; has = Negation d }
sign_by s t (suc zero) h d = record { text = _; after = t; has = Complement d }
sign_by s t (suc (suc n)) h d = absurd (omega arith)

sign : (s : ℕ) → Has IsSign s
sign s = sign_by s (next s) _ (omega arith) (draw 2 s)

pair_of : (d s t u n k o : ℕ) → ((v : ℕ) → Has (IsExpression d) v) → IsDraw 4 s (suc n) t → IsDraw 10 t k u → slice_get operators k ≡ Some o → Has (IsExpression (suc d)) s
pair_of d s t u n k o go e f is =
    let x = go u in
    let y = go x.after in
    record { text = _; after = y.after; has = Pair e f is x.has y.has }

form_by : (d s t u n k : ℕ) → ((v : ℕ) → Has (IsExpression d) v) → k < 10 → IsDraw 4 s (suc n) t → IsDraw 10 t k u → Has (IsExpression (suc d)) s
form_by d s t u n zero go h e f = pair_of d s t u n 0 43 go e f refl
form_by d s t u n (suc zero) go h e f = pair_of d s t u n 1 45 go e f refl
form_by d s t u n (suc (suc zero)) go h e f = pair_of d s t u n 2 42 go e f refl
form_by d s t u n (suc (suc (suc zero))) go h e f = pair_of d s t u n 3 47 go e f refl
form_by d s t u n (suc (suc (suc (suc zero)))) go h e f = pair_of d s t u n 4 38 go e f refl
form_by d s t u n (suc (suc (suc (suc (suc zero))))) go h e f = pair_of d s t u n 5 124 go e f refl
form_by d s t u n (suc (suc (suc (suc (suc (suc zero)))))) go h e f = pair_of d s t u n 6 60 go e f refl
form_by d s t u n (suc (suc (suc (suc (suc (suc (suc zero))))))) go h e f = pair_of d s t u n 7 62 go e f refl
form_by d s t u n (suc (suc (suc (suc (suc (suc (suc (suc zero)))))))) go h e f = pair_of d s t u n 8 61 go e f refl
form_by d s t u n (suc (suc (suc (suc (suc (suc (suc (suc (suc zero))))))))) go h e f =
    let o = sign u in
    let x = go o.after in
    record { text = _; after = x.after; has = Signed e f o.has x.has }
form_by d s t u n (suc (suc (suc (suc (suc (suc (suc (suc (suc (suc k)))))))))) go h e f = absurd (omega arith)

expression_by : (d s t n : ℕ) → ((v : ℕ) → Has (IsExpression d) v) → IsDraw 4 s n t → Has (IsExpression (suc d)) s
expression_by d s t zero go e = let x = leaf t in record { text = x.text; after = x.after; has = Leaf e x.has }
expression_by d s t (suc n) go e = form_by d s t (next t) n _ go (omega arith) e (draw 10 t)

expression : (d s : ℕ) → Has (IsExpression d) s
expression zero s = let x = leaf s in record { text = x.text; after = x.after; has = Flat x.has }
expression (suc d) s = expression_by d s (next s) _ (λ v. expression d v) (draw 4 s)

assignment : (d s : ℕ) → Has (IsLet d) s
assignment d s =
    let x = variable s in
    let y = expression d x.after in
    record { text = _; after = y.after; has = Let x.has y.has }

choice : (s : ℕ) → Has IsChoice s
choice s =
    let x = expression 2 s in
    let y = assignment 2 x.after in
    let z = assignment 2 y.after in
    record { text = _; after = z.after; has = Choice x.has y.has z.has }

statement_by : (s t n : ℕ) → n < 3 → IsDraw 3 s n t → Has IsStatement s
statement_by s t zero h d = let x = assignment 3 t in record { text = x.text; after = x.after; has = Assignment d (lit< tt) x.has }
statement_by s t (suc zero) h d = let x = assignment 3 t in record { text = x.text; after = x.after; has = Assignment d (lit< tt) x.has }
statement_by s t (suc (suc zero)) h d = let x = choice t in record { text = x.text; after = x.after; has = Either d x.has }
statement_by s t (suc (suc (suc n))) h d = absurd (omega arith)

statement : (s : ℕ) → Has IsStatement s
statement s = statement_by s (next s) _ (omega arith) (draw 3 s)

statements : (n s : ℕ) → Has (IsStatements n) s
statements zero s = record { text = []; after = s; has = None }
statements (suc n) s =
    let x = statement s in
    let y = statements n x.after in
    record { text = x.text ++ y.text; after = y.after; has = Next x.has y.has }

program : (s : ℕ) → Has IsProgramText s
program s = let x = statements _ (next s) in record { text = _; after = x.after; has = Program (draw 6 s) x.has }

-- ---- and no second one

record Same (x x' : List ℕ) (t t' : ℕ) : Type 0 where
  text : x ≡ x'
  after : t ≡ t'

one_draw : {k s s' n n' t t' : ℕ} → s ≡ s' → IsDraw k s n t → IsDraw k s' n' t' → (n ≡ n') × (t ≡ t')
one_draw {k} {s} {s'} {n} {n'} {t} {t'} e d f =
    let after : t ≡ t' = d.after ∙ ap next e ∙ sym f.after in
    (d.answer ∙ ap (λ (u : ℕ). u / 65536 % k) after ∙ sym f.answer, after)

one_number : {k s s' t t' : ℕ} {x x' : List ℕ} → s ≡ s' → IsNumber k s x t → IsNumber k s' x' t' → Same x x' t t'
one_number e (Number d) (Number f) = let h = one_draw e d f in record { text = ap (λ (n : ℕ). decimal n ++ codes " ") h.0; after = h.1 }

one_variable : {s s' t t' : ℕ} {x x' : List ℕ} → s ≡ s' → IsVariable s x t → IsVariable s' x' t' → Same x x' t t'
one_variable e (Variable d) (Variable f) = let h = one_draw e d f in record { text = ap variable_text h.0; after = h.1 }

one_leaf : {s s' t t' : ℕ} {x x' : List ℕ} → s ≡ s' → IsLeaf s x t → IsLeaf s' x' t' → Same x x' t t'
one_leaf e (OfVariable d l) (OfVariable f m) = let h = one_draw e d f in record { text = ap variable_text h.0; after = h.1 }
one_leaf e (OfVariable d l) (Large f y) = absurd (let h = (one_draw e d f).0 in omega (arith, h))
one_leaf e (OfVariable d l) (Small f y) = absurd (let h = (one_draw e d f).0 in omega (arith, h))
one_leaf e (Large d x) (OfVariable f m) = absurd (let h = (one_draw e d f).0 in omega (arith, h))
one_leaf e (Large d x) (Large f y) = one_number (one_draw e d f).1 x y
one_leaf e (Large d x) (Small f y) = absurd (let h = (one_draw e d f).0 in omega (arith, h))
one_leaf e (Small d x) (OfVariable f m) = absurd (let h = (one_draw e d f).0 in omega (arith, h))
one_leaf e (Small d x) (Large f y) = absurd (let h = (one_draw e d f).0 in omega (arith, h))
one_leaf e (Small d x) (Small f y) = one_number (one_draw e d f).1 x y

one_sign : {s s' t t' : ℕ} {x x' : List ℕ} → s ≡ s' → IsSign s x t → IsSign s' x' t' → Same x x' t t'
one_sign e (Negation d) (Negation f) = record { text = refl; after = (one_draw e d f).1 }
one_sign e (Negation d) (Complement f) = absurd (let h = (one_draw e d f).0 in omega (arith, h))
one_sign e (Complement d) (Negation f) = absurd (let h = (one_draw e d f).0 in omega (arith, h))
one_sign e (Complement d) (Complement f) = record { text = refl; after = (one_draw e d f).1 }

some_same : {a b : ℕ} → Some a ≡ Some b → a ≡ b
some_same h = cc

below_nine : (k o : ℕ) → slice_get operators k ≡ Some o → k ≡ 9 → ⊥
below_nine k o h e = let none : slice_get operators 9 ≡ Some o = ap (slice_get operators) (sym e) ∙ h in cc

one_expression : (d : ℕ) {s s' t t' : ℕ} {x x' : List ℕ} → s ≡ s' → IsExpression d s x t → IsExpression d s' x' t' → Same x x' t t'
one_expression zero e (Flat p) (Flat q) = one_leaf e p q
one_expression (suc d) e (Leaf f p) (Leaf g q) = one_leaf (one_draw e f g).1 p q
one_expression (suc d) e (Leaf f p) (Pair g _ _ _ _) = absurd (let h = (one_draw e f g).0 in omega (arith, h))
one_expression (suc d) e (Leaf f p) (Signed g _ _ _) = absurd (let h = (one_draw e f g).0 in omega (arith, h))
one_expression (suc d) e (Pair f _ _ _ _) (Leaf g q) = absurd (let h = (one_draw e f g).0 in omega (arith, h))
one_expression (suc d) e (Signed f _ _ _) (Leaf g q) = absurd (let h = (one_draw e f g).0 in omega (arith, h))
one_expression (suc d) e (Pair {k = k} {o = o} f f2 is x y) (Signed g g2 _ _) = absurd (below_nine k o is (one_draw (one_draw e f g).1 f2 g2).0)
one_expression (suc d) e (Signed f f2 _ _) (Pair {k = k} {o = o} g g2 is x y) = absurd (below_nine k o is (sym (one_draw (one_draw e f g).1 f2 g2).0))
one_expression (suc d) e (Pair f f2 is x y) (Pair g g2 js v w) =
    let h = one_draw (one_draw e f g).1 f2 g2 in
    let l = one_expression d h.1 x v in
    let r = one_expression d l.after y w in
    let o = some_same (sym is ∙ ap (slice_get operators) h.0 ∙ js) in
    record { text = λ i. codes "( " ++ l.text i ++ o i ∷ codes " " ++ r.text i ++ codes ") "; after = r.after }
one_expression (suc d) e (Signed f f2 o x) (Signed g g2 p y) =
    let h = one_draw (one_draw e f g).1 f2 g2 in
    let l = one_sign h.1 o p in
    let r = one_expression d l.after x y in
    record { text = λ i. codes "( " ++ l.text i ++ r.text i ++ codes ") "; after = r.after }

one_let : (d : ℕ) {s s' t t' : ℕ} {x x' : List ℕ} → s ≡ s' → IsLet d s x t → IsLet d s' x' t' → Same x x' t t'
one_let d e (Let x y) (Let v w) =
    let l = one_variable e x v in
    let r = one_expression d l.after y w in
    record { text = λ i. codes "let " ++ l.text i ++ codes "= " ++ r.text i ++ codes ";\n"; after = r.after }

one_choice : {s s' t t' : ℕ} {x x' : List ℕ} → s ≡ s' → IsChoice s x t → IsChoice s' x' t' → Same x x' t t'
one_choice e (Choice x y z) (Choice u v w) =
    let k = one_expression 2 e x u in
    let l = one_let 2 k.after y v in
    let r = one_let 2 l.after z w in
    record { text = λ i. codes "if ( " ++ k.text i ++ codes ") {\n" ++ l.text i ++ codes "}\nelse {\n" ++ r.text i ++ codes "}\n"; after = r.after }

one_statement : {s s' t t' : ℕ} {x x' : List ℕ} → s ≡ s' → IsStatement s x t → IsStatement s' x' t' → Same x x' t t'
one_statement e (Assignment f l x) (Assignment g m y) = one_let 3 (one_draw e f g).1 x y
one_statement e (Assignment f l x) (Either g y) = absurd (let h = (one_draw e f g).0 in omega (arith, h))
one_statement e (Either f x) (Assignment g m y) = absurd (let h = (one_draw e f g).0 in omega (arith, h))
one_statement e (Either f x) (Either g y) = one_choice (one_draw e f g).1 x y

one_statements : (n n' : ℕ) {s s' t t' : ℕ} {x x' : List ℕ} → n ≡ n' → s ≡ s' → IsStatements n s x t → IsStatements n' s' x' t' → Same x x' t t'
one_statements zero zero k e None None = record { text = refl; after = e }
one_statements zero (suc n') k e None q = absurd (omega arith)
one_statements (suc n) zero k e p None = absurd (omega arith)
one_statements (suc n) (suc n') k e (Next x y) (Next v w) =
    let l = one_statement e x v in
    let r = one_statements n n' (omega arith) l.after y w in
    record { text = λ i. l.text i ++ r.text i; after = r.after }

one_program : {s t t' : ℕ} {x x' : List ℕ} → IsProgramText s x t → IsProgramText s x' t' → Same x x' t t'
one_program (Program d p) (Program f q) =
    let h = one_draw refl d f in
    let l = one_statements _ _ (ap suc h.0) h.1 p q in
    record { text = λ i. head ++ l.text i ++ tail; after = l.after }

pub one_text : OneTextLaw
one_text = record {
  some = λ s. let x = program s in (x.text, x.after, x.has);
  one = λ s t t' x x' p q. let h = one_program p q in (h.text, h.after);
}
