-- What is written by some draws and pieces, one after another, is what a rule has.
use Rattle.std.proofs.Common.{◌≡◌, ◌+◌, ℕ, zero, suc, List, [], ◌∷◌, ◌++◌, append_assoc, Result, Ok, Err, Some, IfOk, codes, decimal, slice_get, sym, ap, subst, ◌∙◌, add-one}
use Rattle.std.proofs.lemmas.List.{append-nil}
use Rattle.soak_program.specs.declared.generator.Generator.{Generator}
use Rattle.soak_program.specs.Generator.{IsDraw, IsNumber, Number, IsVariable, IsLeaf, IsSign, operators, IsExpression, Flat, Pair, Signed, IsLet, Let, IsChoice, Choice, IsStatement, IsStatements, None, Next, head, tail, IsProgramText, Program}
use Rattle.soak_program.specs.Inner.Written.{Draws, Adds, Writes}

abbrev Rule : Type 1
Rule = ℕ → List ℕ → ℕ → Type 0

-- ---- Results

pub then_adds : {T E : Type 0} (r : Result T E) (p : List ℕ) (R : ℕ → List ℕ → ℕ → Type 0) (a b z : Generator) → (Adds p b z → Writes R a z) → IfOk r (λ x. Adds p b z) → IfOk r (λ x. Writes R a z)
then_adds (Ok x) p R a b z f h = f h
then_adds (Err e) p R a b z f h = h

pub then_writes : {T E : Type 0} (r : Result T E) (Q R : ℕ → List ℕ → ℕ → Type 0) (a b z : Generator) → (Writes Q b z → Writes R a z) → IfOk r (λ x. Writes Q b z) → IfOk r (λ x. Writes R a z)
then_writes (Ok x) Q R a b z f h = f h
then_writes (Err e) Q R a b z f h = h

-- ---- Texts

-- two pieces
two : (o x y : List ℕ) {a b : List ℕ} → a ≡ o ++ x → b ≡ a ++ y → b ≡ o ++ (x ++ y)
two o x y h k = k ∙ ap (λ (l : List ℕ). l ++ y) h ∙ append_assoc o x y

-- a piece after a draw
drawn : {k n : ℕ} {a b : Generator} (x : List ℕ) {c : List ℕ} → Draws k a n b → c ≡ b.text.items ++ x → c ≡ a.text.items ++ x
drawn {a} {b} x d h = h ∙ ap (λ (l : _). l.items ++ x) d.text

-- ---- Pieces

-- a rule after a draw
pub after_draw : (Q R : ℕ → List ℕ → ℕ → Type 0) (k n : ℕ) (a b z : Generator) → Draws k a n b → ((x : List ℕ) (t : ℕ) → IsDraw k a.state n b.state → Q b.state x t → R a.state x t) → Writes Q b z → Writes R a z
after_draw Q R k n a b z d f w = record { piece = w.piece; text = drawn w.piece d w.text; rule = f w.piece z.state d.drawn w.rule }

-- a piece after a draw
pub add_after_draw : (R : ℕ → List ℕ → ℕ → Type 0) (k n : ℕ) (x : List ℕ) (a b z : Generator) → Draws k a n b → (IsDraw k a.state n b.state → R a.state x b.state) → Adds x b z → Writes R a z
add_after_draw R k n x a b z d f w = record { piece = x; text = drawn x d w.text; rule = subst (λ (t : ℕ). R a.state x t) (sym w.state) (f d.drawn) }

pub number_writes : (k n : ℕ) (x : List ℕ) (a b c z : Generator) → Draws k a n b → x ≡ decimal n → Adds x b c → Adds (codes " ") c z → Writes (IsNumber k) a z
number_writes k n x a b c z d e p q = record {
  piece = decimal n ++ codes " ";
  text = two a.text.items (decimal n) (codes " ") (drawn (decimal n) d (subst (λ (l : List ℕ). c.text.items ≡ b.text.items ++ l) e p.text)) q.text;
  rule = subst (λ (t : ℕ). IsNumber k a.state (decimal n ++ codes " ") t) (sym (q.state ∙ p.state)) (Number d.drawn);
}

pub let_writes : (d : ℕ) (a b c e f z : Generator) → Adds (codes "let ") a b → Writes IsVariable b c → Adds (codes "= ") c e → Writes (IsExpression d) e f → Adds (codes ";\n") f z → Writes (IsLet d) a z
let_writes d a b c e f z p x q y r =
    let o = a.text.items in
    let piece = codes "let " ++ x.piece ++ codes "= " ++ y.piece ++ codes ";\n" in
    record {
      piece = piece;
      text = two o _ _ (two o _ _ (two o _ _ (two o _ _ p.text x.text) q.text) y.text) r.text;
      rule = subst (λ (t : ℕ). IsLet d a.state piece t) (sym r.state) (Let (subst (λ (s : ℕ). IsVariable s x.piece c.state) p.state x.rule) (subst (λ (s : ℕ). IsExpression d s y.piece f.state) q.state y.rule));
    }

pub choice_writes : (a b c e f g h z : Generator) → Adds (codes "if ( ") a b → Writes (IsExpression 2) b c → Adds (codes ") {\n") c e → Writes (IsLet 2) e f → Adds (codes "}\nelse {\n") f g → Writes (IsLet 2) g h → Adds (codes "}\n") h z → Writes IsChoice a z
choice_writes a b c e f g h z p x q y r w v =
    let o = a.text.items in
    let piece = codes "if ( " ++ x.piece ++ codes ") {\n" ++ y.piece ++ codes "}\nelse {\n" ++ w.piece ++ codes "}\n" in
    record {
      piece = piece;
      text = two o _ _ (two o _ _ (two o _ _ (two o _ _ (two o _ _ (two o _ _ p.text x.text) q.text) y.text) r.text) w.text) v.text;
      rule = subst (λ (t : ℕ). IsChoice a.state piece t) (sym v.state)
          (Choice (subst (λ (s : ℕ). IsExpression 2 s x.piece c.state) p.state x.rule) (subst (λ (s : ℕ). IsLet 2 s y.piece f.state) q.state y.rule) (subst (λ (s : ℕ). IsLet 2 s w.piece h.state) r.state w.rule));
    }

pub flat_writes : (a z : Generator) → Writes IsLeaf a z → Writes (IsExpression 0) a z
flat_writes a z w = record { piece = w.piece; text = w.text; rule = Flat w.rule }

pub pair_writes : (d n k o : ℕ) (a b c e f g h z : Generator) → Draws 4 a (suc n) b → Draws 10 b k c → slice_get operators k ≡ Some o → Adds (codes "( ") c e → Writes (IsExpression d) e f → Adds (o ∷ codes " ") f g → Writes (IsExpression d) g h → Adds (codes ") ") h z
    → Writes (IsExpression (suc d)) a z
pair_writes d n k o a b c e f g h z first second is p x q y r =
    let l = a.text.items in
    let piece = codes "( " ++ x.piece ++ o ∷ codes " " ++ y.piece ++ codes ") " in
    record {
      piece = piece;
      text = two l _ _ (two l _ _ (two l _ _ (two l _ _ (drawn (codes "( ") first (drawn (codes "( ") second p.text)) x.text) q.text) y.text) r.text;
      rule = subst (λ (t : ℕ). IsExpression (suc d) a.state piece t) (sym r.state)
          (Pair first.drawn second.drawn is (subst (λ (s : ℕ). IsExpression d s x.piece f.state) p.state x.rule) (subst (λ (s : ℕ). IsExpression d s y.piece h.state) q.state y.rule));
    }

pub signed_writes : (d n : ℕ) (a b c e f g z : Generator) → Draws 4 a (suc n) b → Draws 10 b 9 c → Adds (codes "( ") c e → Writes IsSign e f → Writes (IsExpression d) f g → Adds (codes ") ") g z → Writes (IsExpression (suc d)) a z
signed_writes d n a b c e f g z first second p x y r =
    let l = a.text.items in
    let piece = codes "( " ++ x.piece ++ y.piece ++ codes ") " in
    record {
      piece = piece;
      text = two l _ _ (two l _ _ (two l _ _ (drawn (codes "( ") first (drawn (codes "( ") second p.text)) x.text) y.text) r.text;
      rule = subst (λ (t : ℕ). IsExpression (suc d) a.state piece t) (sym r.state) (Signed first.drawn second.drawn (subst (λ (s : ℕ). IsSign s x.piece f.state) p.state x.rule) y.rule);
    }

-- one more statement at the end
statements_more : (n : ℕ) {s t u : ℕ} {x y : List ℕ} → IsStatements n s x t → IsStatement t y u → IsStatements (suc n) s (x ++ y) u
statements_more zero {s} {t} {u} {x} {y} None h = subst (λ (l : List ℕ). IsStatements 1 s l u) (append-nil y) (Next h None)
statements_more (suc n) {s} {t} {u} {x} {y} (Next {x = p} {y = q} g more) h = subst (λ (l : List ℕ). IsStatements (suc (suc n)) s l u) (sym (append_assoc p q y)) (Next g (statements_more n more h))

pub no_statements : (a z : Generator) → z ≡ a → Writes (IsStatements 0) a z
no_statements a z e = record {
  piece = [];
  text = ap (λ (g : Generator). g.text.items) e ∙ sym (append-nil a.text.items);
  rule = subst (λ (t : ℕ). IsStatements 0 a.state [] t) (ap (λ (g : Generator). g.state) (sym e)) None;
}

pub more_statements : (n : ℕ) (a b z : Generator) → Writes (IsStatements n) a b → Writes IsStatement b z → Writes (IsStatements (n + 1)) a z
more_statements n a b z p q = record {
  piece = p.piece ++ q.piece;
  text = two a.text.items p.piece q.piece p.text q.text;
  rule = subst (λ (m : ℕ). IsStatements m a.state (p.piece ++ q.piece) z.state) (sym (add-one n)) (statements_more n p.rule q.rule);
}

pub program_writes : (n m : ℕ) (h h' i i' : List ℕ) (a b c e f g z : Generator) → h ++ h' ≡ head → i ++ i' ≡ tail → m ≡ suc n → Adds h a b → Adds h' b c → Draws 6 c n e → Writes (IsStatements m) e f → Adds i f g → Adds i' g z
    → Writes IsProgramText a z
program_writes n m h h' i i' a b c e f g z one other number p q d w r v =
    let o = a.text.items in
    let piece = head ++ w.piece ++ tail in
    let front : c.text.items ≡ o ++ head = subst (λ (l : List ℕ). c.text.items ≡ o ++ l) one (two o h h' p.text q.text) in
    let middle : f.text.items ≡ c.text.items ++ w.piece = drawn w.piece d w.text in
    let back : z.text.items ≡ f.text.items ++ tail = subst (λ (l : List ℕ). z.text.items ≡ f.text.items ++ l) other (two f.text.items i i' r.text v.text) in
    let same : c.state ≡ a.state = q.state ∙ p.state in
    record {
      piece = piece;
      text = two o (head ++ w.piece) tail (two o head w.piece front middle) back;
      rule = subst (λ (t : ℕ). IsProgramText a.state piece t) (sym (v.state ∙ r.state))
          (Program (subst (λ (s : ℕ). IsDraw 6 s n e.state) same d.drawn) (subst (λ (k : ℕ). IsStatements k e.state w.piece f.state) number w.rule));
    }
