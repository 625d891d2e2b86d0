-- No text is long.
use Rattle.std.proofs.Common.{◌≡◌, ◌<◌, ◌≤◌, ◌+◌, ◌*◌, ◌/◌, ◌%◌, ℕ, zero, suc, List, length, length-append, decimal, arith, lit<, refl}
use Rattle.std.proofs.lemmas.Fmt.{length-decimal-le}
use Rattle.soak_program.specs.Generator.{IsDraw, IsNumber, Number, IsVariable, Variable, IsLeaf, OfVariable, Large, Small, IsSign, Negation, Complement, IsExpression, Flat, Leaf, Pair, Signed, IsLet, Let, IsChoice, Choice, IsStatement, Assignment, Either, IsStatements, None, Next, IsProgramText, Program}
use Rattle.soak_program.specs.Laws.{LengthLaw}

short : (k : ℕ) {s n t : ℕ} → ((m : ℕ) → m % k < 32768) → IsDraw k s n t → length (decimal n) ≤ 5
short k {n = n} {t = t} h d = let few : n < 32768 = (let a = d.answer in let b = h (t / 65536) in omega (arith, a, b)) in length-decimal-le 5 n (lit< tt) (omega (arith, few)) (omega (arith, few))

of_number : (k : ℕ) {s t : ℕ} {x : List ℕ} → ((m : ℕ) → m % k < 32768) → IsNumber k s x t → length x ≤ 6
of_number k h (Number {n = n} d) = let a = short k h d in simp length-append (omega (arith, a))

of_variable : {s t : ℕ} {x : List ℕ} → IsVariable s x t → length x ≡ 2
of_variable (Variable d) = refl

of_leaf : {s t : ℕ} {x : List ℕ} → IsLeaf s x t → length x ≤ 6
of_leaf (OfVariable d l) = omega arith
of_leaf (Large d x) = of_number 32768 (λ m. omega arith) x
of_leaf (Small d x) = of_number 10 (λ m. omega arith) x

of_sign : {s t : ℕ} {x : List ℕ} → IsSign s x t → length x ≡ 2
of_sign (Negation d) = refl
of_sign (Complement d) = refl

abbrev longest : ℕ → ℕ
longest zero = 6
longest (suc d) = 2 * longest d + 6

least : (d : ℕ) → 6 ≤ longest d
least zero = omega arith
least (suc d) = let a = least d in omega (arith, a)

of_expression : (d : ℕ) {s t : ℕ} {x : List ℕ} → IsExpression d s x t → length x ≤ longest d
of_expression zero (Flat p) = of_leaf p
of_expression (suc d) (Leaf e p) = let a = of_leaf p in let b = least (suc d) in omega (arith, a, b)
of_expression (suc d) (Pair e f is p q) = let a = of_expression d p in let b = of_expression d q in simp length-append (omega (arith, a, b))
of_expression (suc d) (Signed e f p q) = let a = of_sign p in let b = of_expression d q in let c = least d in simp length-append (omega (arith, a, b, c))

of_let : (d : ℕ) {s t : ℕ} {x : List ℕ} → IsLet d s x t → length x ≤ longest d + 10
of_let d (Let p q) = let a = of_variable p in let b = of_expression d q in simp length-append (omega (arith, a, b))

of_choice : {s t : ℕ} {x : List ℕ} → IsChoice s x t → length x ≤ 166
of_choice (Choice p q r) = let a = of_expression 2 p in let b = of_let 2 q in let c = of_let 2 r in simp length-append (omega (arith, a, b, c))

of_statement : {s t : ℕ} {x : List ℕ} → IsStatement s x t → length x ≤ 166
of_statement (Assignment d l p) = let a = of_let 3 p in omega (arith, a)
of_statement (Either d p) = of_choice p

of_statements : (n : ℕ) {s t : ℕ} {x : List ℕ} → IsStatements n s x t → length x ≤ n * 166
of_statements zero None = omega arith
of_statements (suc n) (Next p q) = let a = of_statement p in let b = of_statements n q in simp length-append (omega (arith, a, b))

of_program : {s t : ℕ} {x : List ℕ} → IsProgramText s x t → length x ≤ 1169
of_program (Program {n = n} {t = t} d p) =
    let few : n ≤ 5 = (let a = d.answer in omega (arith, a)) in
    let a = of_statements (suc n) p in
    simp length-append (omega (arith, a, few))

pub no_text_long : LengthLaw
no_text_long s t text p = of_program p
